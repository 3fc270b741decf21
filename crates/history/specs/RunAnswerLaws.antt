-- A run, strict or lenient, writes for each record that it takes the answer of that sample, and no later record moves it.
use Prim.Native.Nat.{ℕ, zero, suc, ◌+◌, ◌*◌, ◌≤◌, ◌<◌}
use Rattle.std.specs.Prelude.{Bool, cond, ◌≡◌, leb, length, take}
use Rattle.std.proofs.Math.Bool.{true, and-eq-true_iff}
use Rattle.std.proofs.Common.{true≢false, sym, ◌∙◌, add-zero, zero-add}
use mathlib.Core.List.{List, [], ◌∷◌}
use Rattle.std.proofs.Math.Path.{refl, ap, subst}
use Rattle.std.proofs.Math.ListN.{get_or}
use borrow.Author.Tests.{leb-true}
use native.Mathlib.Omega.{arith}
use Rattle.chip.specs.Answer.{answer_of}
use Rattle.chip.specs.Laws.{answer_whole}
use Rattle.counts.specs.declared.part.Part.{Part}
use Rattle.fifo.specs.Outcome.{Outcome, Refused, Taken}
use Rattle.notes.specs.Fold.{ended, folded, noted, started, stops}
use Rattle.notes.specs.NoteLaws.{put_length}
use Rattle.notes.specs.ReachLaws.{cond_either}
use Rattle.runs.specs.Run.{Ended, Progress, at_end, turn, turned, worked}
use Rattle.fifo.specs.Sample.{After, answers_after, is_depth, is_taken, number_of, stepped}
use Rattle.pins.specs.Record.{pins_of}
use Rattle.pins.specs.Trace.{records_from, whole_records}
use Rattle.pins.specs.TraceLaws.{records_length}
use Rattle.views.specs.TrueCounts.{TrueCounts}
use Rattle.history.specs.AnswerLaws.{answer_kept, answer_put, answers_next, taken_answer}
use Rattle.history.specs.LedLaws.{counts_next, sample_steps, told_next}
use Rattle.history.specs.Onlooker.{Notes}
use Rattle.history.specs.RunLaws.{run_by}
use Rattle.history.specs.Told.{Told}
use Rattle.history.specs.Trace.{Answers, Moment, answer_at, at, led, moved_to, next, outcome, run_from, takes, worked_at, worked_on}

-- a run that has come past a record has not stopped at it
gone_past : (P : Ended → Type 0) (stop : Bool) (number index i : ℕ) (g : Progress) (rest : Ended) → index + i < (cond stop (ended number index g) rest).index
    → (index + i < rest.index → P rest) → P (cond stop (ended number index g) rest)
gone_past P stop number index i g rest past f =
    cond_either (λ (e : Ended). index + i < e.index → P e) stop (ended number index g) rest (λ stopped on. absurd (omega arith)) f past

answers_length : (found : Outcome) (index : ℕ) (room : List ℕ) → length (answers_after found index room) ≡ length room
answers_length (Taken answer) index room = put_length room index answer
answers_length (Refused number) index room = refl

answer_stays : (found : Outcome) (index i : ℕ) (room : List ℕ) → i < index → answer_at i (answers_after found index room) ≡ answer_at i room
answer_stays (Taken answer) index i room before = answer_kept room index i answer before
answer_stays (Refused number) index i room before = refl

taken_number : (found : Outcome) → is_taken found ≡ true → number_of found ≡ 0
taken_number (Taken answer) e = refl
taken_number (Refused number) e = absurd (true≢false (sym e))

-- a run's end has the answer of a sample at an index
abbrev Written : Part → Moment → ℕ → ℕ → Ended → Type 0
Written part m x index e = Answers part (pins_of x) (next part m x).state (answer_at index e.progress.answers)

module _ (part : Part) (lenient : Bool) (last : ℕ) where
  -- the answers of the records before an index stay
  fold_keeps : (xs : List ℕ) (index i : ℕ) (g : Progress) → i < index
      → answer_at i (folded lenient (turned part) last xs index g).progress.answers ≡ answer_at i g.answers
  unfolding folded
  fold_keeps [] index i g before = refl
  fold_keeps (x ∷ xs) index i g before =
      let a = stepped part x g.state g.memory in
      cond_either (λ (e : Ended). answer_at i e.progress.answers ≡ answer_at i g.answers) (stops lenient (number_of a.sampled.outcome))
      (ended (number_of a.sampled.outcome) index g) (folded lenient (turned part) last xs (index + 1) (noted lenient index (turn a) g)) (λ stopped. refl)
      (fold_keeps xs (index + 1) i (noted lenient index (turn a) g) (omega arith) ∙ answer_stays a.sampled.outcome index i g.answers before)

  module _ (m : Moment) (t : TrueCounts) (told : Told part m t) (x : ℕ) (xs : List ℕ) (index accepted : ℕ) (answers marks : List ℕ) where
    abbrev g : Progress
    g = record { state = m.state; accepted = accepted; memory = m.memory; answers = answers; marks = marks }

    abbrev a : After
    a = stepped part x m.state m.memory

    written_first : index * 3 + 2 < length answers → takes part m x ≡ true
        → Written part m x index (folded lenient (turned part) last xs (index + 1) (noted lenient index (turn a) g))
    unfolding takes
    written_first room taken =
        let answer = answer_of part (pins_of x) (next part m x).state in
        let found : a.sampled.outcome ≡ Taken answer = ap (λ (b : After). b.sampled.outcome) (sym (sample_steps part m t told x))
        ∙ taken_answer part m t told x (taken_number (outcome part m x).sampled.outcome taken) in
        let same = fold_keeps xs (index + 1) index (noted lenient index (turn a) g) (omega arith) ∙ ap (λ (o : Outcome). answer_at index (answers_after o index answers)) found
        ∙ answer_put answers index answer room (answer_whole part (pins_of x) (next part m x).state) in
        subst (Answers part (pins_of x) (next part m x).state) (sym same) (answers_next part m t told x)

  fold_answers : (xs : List ℕ) (index i : ℕ) (g : Progress) (notes : Notes) (t : TrueCounts) → Told part (at g.state g.memory notes) t
      → (index + length xs) * 3 ≤ length g.answers → index + i < (folded lenient (turned part) last xs index g).index
      → let before = led part (at g.state g.memory notes) (take i xs) in
      takes part before (get_or xs i 0) ≡ true → Written part before (get_or xs i 0) (index + i) (folded lenient (turned part) last xs index g)
  unfolding folded led next
  fold_answers [] index i g notes t told room past taken = absurd (omega arith)
  fold_answers (x ∷ xs) index zero g notes t told room past taken =
      let m = at g.state g.memory notes in
      let a = stepped part x g.state g.memory in
      gone_past (Written part m x (index + 0)) (stops lenient (number_of a.sampled.outcome)) (number_of a.sampled.outcome) index 0 g _ past
      (λ on. rw (add-zero index) (written_first m t told x xs index g.accepted g.answers g.marks (omega arith) taken))
  fold_answers (x ∷ xs) index (suc i) g notes t told room past taken =
      let m = at g.state g.memory notes in
      let a = stepped part x g.state g.memory in
      let same : next part m x ≡ moved_to part m x a = ap (moved_to part m x) (sample_steps part m t told x) in
      let further : index + suc i ≡ index + 1 + i = omega arith in
      let rest = folded lenient (turned part) last xs (index + 1) (noted lenient index (turn a) g) in
      let y = get_or xs i 0 in
      gone_past (Written part (led part (next part m x) (take i xs)) y (index + suc i)) (stops lenient (number_of a.sampled.outcome)) (number_of a.sampled.outcome)
      index (suc i) g rest past
      (λ on. rw further (subst (λ (n : Moment). takes part (led part n (take i xs)) y ≡ true → Written part (led part n (take i xs)) y (index + 1 + i) rest) (sym same)
      (fold_answers xs (index + 1) i (noted lenient index (turn a) g) (moved_to part m x a).notes (counts_next part m x t)
      (subst (λ (n : Moment). Told part n (counts_next part m x t)) same (told_next part m t told x))
      (rw (answers_length a.sampled.outcome index g.answers) (omega arith)) (rw (further) at on)) taken))

module _ (part : Part) (m : Moment) (t : TrueCounts) (told : Told part m t) (lenient : Bool) (bytes answers marks : List ℕ) (i : ℕ) where
  abbrev Shows : Ended → Type 0
  Shows e = i < e.index → takes part (led part m (worked_on i bytes)) (worked_at i bytes) ≡ true → Written part (led part m (worked_on i bytes)) (worked_at i bytes) i e

  pub run_answers : Shows (run_from part m lenient bytes answers marks)
  unfolding worked
  run_answers =
      let g = started m.state m.memory answers marks in
      run_by part m t told lenient bytes answers marks Shows
      (λ fits past taken.
      let roomy = ((and-eq-true_iff (is_depth part (length m.memory)) _).0 fits).1 in
      let enough = leb-true (whole_records bytes * 3) (length answers) ((and-eq-true_iff (leb (whole_records bytes * 3) (length answers)) _).0 roomy).0 in
      let many = records_length bytes 0 (whole_records bytes) in
      subst (λ (k : ℕ). Written part (led part m (worked_on i bytes)) (worked_at i bytes) k (worked lenient part bytes g)) (zero-add i)
      (fold_answers part lenient (at_end bytes) (records_from bytes 0 (whole_records bytes)) 0 i g m.notes t told (omega arith) (rw (sym (zero-add i)) at past) taken))
      (λ past taken. absurd (omega arith))
