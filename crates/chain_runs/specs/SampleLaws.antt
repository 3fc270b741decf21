-- Order 4: a run over one record is a sample.
use Rattle.std.specs.Prelude.{ℕ, ◌^◌, ◌<◌, Bool, true, false, not, cond, List, [], ◌∷◌, ◌≢◌, ◌≡◌, eqb, get_or, length}
use Rattle.std.proofs.Math.Path.{refl}
use Rattle.std.proofs.Common.{sym, ap, subst, ◌∙◌, arith}
use borrow.Author.Tests.{eq-eqb, eqb-false, eqb-true, ne_eqb}
use Rattle.rows.specs.declared.row.Row.{Row}
use Rattle.chain_work.specs.declared.work.Ran.{Ran}
use Rattle.chain_work.specs.Records.{links_at, whole_records}
use Rattle.chain_work.specs.RecordsLaws.{end_told}
use Rattle.rows.specs.Step.{After, Moving, chain_answer, chain_refusal, chain_stepped, moved_to, took, turned_away}
use Rattle.counts.specs.Either.{either}
use Rattle.refusal_kinds.specs.Numbers as refusals
use Rattle.rows.specs.StepLaws.{chain_numbered, step_still, step_taken, step_told}
use Rattle.chain_work.specs.Work.{Ended, Progress, at_end, ran_of, turn, worked}
use Rattle.counts.specs.declared.part.Part.{Part}
use Rattle.fifo.specs.Outcome.{Outcome, Refused, Taken}
use Rattle.fifo.specs.Sample.{number_of}
use Rattle.links.specs.declared.record.Links.{Links}
use Rattle.notes.specs.Fold.{Ends, ended, folded, noted, started, stops}
use Rattle.pins.specs.Answer.{put_answer}
use Rattle.pins.specs.Laws.{laid}
use Rattle.pins.specs.Trace.{items_from, joined}
use Rattle.chain_runs.specs.Outcome.{Worked}
use Rattle.chain_runs.specs.Test.{Verdict}
use Rattle.chain_runs.specs.Test.{Passed, Refused as Away}
use Rattle.chain_runs.specs.Sample.{Gives, outcome_by, row_sampled}
use Rattle.chain_runs.specs.Test.{test_of}

-- three bytes of answer, put together again
abbrev pub answer_in : List ℕ → ℕ
answer_in room = joined 0 (get_or room 0 0) (get_or room 1 0) (get_or room 2 0)

answer_again : (first second third answer : ℕ) → answer < 2 ^ 24 → answer_in (put_answer (first ∷ second ∷ third ∷ []) 0 answer) ≡ answer
unfolding put_answer
answer_again first second third answer l = omega (arith, l)

answer_small : (part : Part) (x : Links) (row : Row) → chain_answer part x.pins row < 2 ^ 24
unfolding chain_answer
answer_small part x row = (laid _).whole

-- where such a run ended gives the outcome, the row and the words of the sample
record Same (e : Ended) (a : After) : Type 0 where
  outcome : outcome_by e.refusal (answer_in e.progress.answers) ≡ a.outcome
  row : e.progress.state ≡ a.row
  words : e.progress.memory ≡ a.memory

-- the end of a run that comes to one sample
abbrev ended_by : Progress → After → Ended
ended_by g a = cond (stops false (number_of a.outcome)) (ended (number_of a.outcome) 0 g) (ended 0 1 (noted false 0 (turn a) g))

module _ (part : Part) (x : Links) (row : Row) (memory : List ℕ) where
  abbrev start : Progress
  start = started row memory (0 ∷ 0 ∷ 0 ∷ []) []

  same_taken : (m : Moving) → Same (ended_by start (took part x.pins m)) (took part x.pins m)
  same_taken m = record { outcome = ap Taken (answer_again 0 0 0 _ (answer_small part x m.row)); row = refl; words = refl }

  same_refused : (number : ℕ) → number ≢ 0 → Same (ended_by start (turned_away number row memory)) (turned_away number row memory)
  same_refused number some = by (eqb number 0) refl
    where
      by : (none : Bool) → eqb number 0 ≡ none → Same (cond (not none) (ended number 0 start) (ended 0 1 (noted false 0 (turn (turned_away number row memory)) start))) (turned_away number row memory)
      by true e = absurd (some (eqb-true number 0 e))
      by false e = record { outcome = simp e; row = refl; words = refl }

  same_stepped : Same (ended_by start (chain_stepped part x row memory)) (chain_stepped part x row memory)
  same_stepped = by (eqb (chain_refusal part x row) 0) refl
    where
      by : (none : Bool) → eqb (chain_refusal part x row) 0 ≡ none → Same (ended_by start (chain_stepped part x row memory)) (chain_stepped part x row memory)
      by true e = rw (step_taken part x row memory (eqb-true _ _ e)) (same_taken (moved_to part x row memory row.count))
      by false e = let some = eqb-false _ _ e in rw (step_still part x row memory some) (same_refused (chain_refusal part x row) some)

module _ (part : Part) (bytes : List ℕ) (row : Row) (memory : List ℕ) (seven : length bytes ≡ 7) where
  one : whole_records bytes ≡ 1
  one = rw seven refl

  clean : at_end bytes ≡ 0
  clean = end_told bytes ∙ rw seven refl

  one_worked : worked false part bytes (start part (links_at bytes 0) row memory) ≡ ended_by (start part (links_at bytes 0) row memory) (chain_stepped part (links_at bytes 0) row memory)
  unfolding worked folded items_from
  one_worked = rw (clean, one) refl

  -- what ended it, if a refusal did, is one of the table
  pub end_numbered : {ran : Ran} {words answer marks : List ℕ} → Ends ran_of (worked false part bytes (start part (links_at bytes 0) row memory)) ran words answer marks
      → refusals.number_of (refusals.of_number ran.refusal) ≡ ran.refusal
  end_numbered e =
      let Numbered : ℕ → Type 0 = λ n. refusals.number_of (refusals.of_number n) ≡ n in
      let a = chain_stepped part (links_at bytes 0) row memory in
      let told = subst Numbered (sym (step_told part (links_at bytes 0) row memory)) (chain_numbered part (links_at bytes 0) row) in
      let there = one_worked in
      rw (e.strict.result, there) (either (λ (end : Ended). Numbered end.refusal) (stops false (number_of a.outcome)) _ _ told refl)

  -- what the work on one record handed back
  pub sample_worked : {ran : Ran} {words answer marks : List ℕ} → Ends ran_of (worked false part bytes (start part (links_at bytes 0) row memory)) ran words answer marks
      → {outcome : Outcome} → outcome ≡ outcome_by ran.refusal (answer_in answer)
      → Gives (chain_stepped part (links_at bytes 0) row memory) (record { outcome = outcome; row = ran.row }) words
  sample_worked {ran = ran} {words = words} {answer = answer} e o =
      let s = same_stepped part (links_at bytes 0) row memory in
      let there = one_worked in
      record {
        outcome = o ∙ rw (e.strict.result, e.strict.room, there) s.outcome;
        row = rw (e.strict.result, there) s.row;
        words = e.strict.words ∙ rw there s.words;
      }

module _ (number : ℕ) (bytes : List ℕ) (row : Row) (memory : List ℕ) {verdict : Verdict} (v : verdict ≡ test_of number row (length memory) true) where
  pub sample_refused : {refused : ℕ} → verdict ≡ Away refused → row_sampled number bytes row memory ≡ turned_away refused row memory
  unfolding row_sampled
  sample_refused e = rw (sym v ∙ e) refl

  module _ {part : Part} (e : verdict ≡ Passed part) where
    pub sample_other : (length bytes ≢ 7) → row_sampled number bytes row memory ≡ turned_away 4 row memory
    unfolding row_sampled
    sample_other n = rw (sym v ∙ e, ne_eqb (length bytes) 7 n) refl

    pub sample_steps : length bytes ≡ 7 → row_sampled number bytes row memory ≡ chain_stepped part (links_at bytes 0) row memory
    unfolding row_sampled
    sample_steps n = rw (sym v ∙ e, eq-eqb (length bytes) 7 n) refl

pub gives_by : {a b : After} {r : Worked} {memory : List ℕ} → a ≡ b → Gives b r memory → Gives a r memory
gives_by e g = rw e g

pub turned_away_lem : {number : ℕ} {row : Row} {memory : List ℕ} {r : Worked} → r ≡ record { outcome = Refused number; row = row } → Gives (turned_away number row memory) r memory
turned_away_lem e = rw e (record { outcome = refl; row = refl; words = refl })
