-- The work on the records of a chain, in the words of the code: what the calls of one turn gave.
use Prim.Native.Nat.{ℕ, ◌+◌, ◌<◌}
use mathlib.Core.Bool.{Bool, true, false, cond}
use mathlib.Core.List.{List}
use mathlib.Core.Logic.{◌≢◌}
use mathlib.Core.Path.{◌≡◌, refl, sym, ap, ◌∙◌}
use lib.Dec.{eqb}
use lib.ListN.{length}
use borrow.Author.Tests.{eqb-false, eqb-true}
use native.Mathlib.Omega.{arith}
use Rattle.counts.specs.declared.part.Part.{Part}
use Rattle.fifo.specs.Outcome.{Outcome, Refused, Taken}
use Rattle.fifo.specs.Sample.{answers_after, number_of}
use Rattle.links.specs.declared.record.Links.{Links}
use Rattle.links.specs.Record.{links_of}
use Rattle.notes.specs.Fold.{Ends, accepted_after, marks_after, stops}
use Rattle.notes.specs.LoopLaws as loop
use Rattle.notes.specs.LoopLaws.{Steady, stopped_number}
use Rattle.notes.specs.NoteLaws.{put_length}
use Rattle.pins.specs.Answer.{put_answer}
use Rattle.chain_work.specs.declared.records.Record.{Record}
use Rattle.chain_work.specs.declared.records.Record.TheVariants.{Whole, Leftover, End}
use Rattle.rows.specs.declared.row.Row.{Row}
use Rattle.rows.specs.Relied.{fits}
use Rattle.chain_work.specs.Records as records
use Rattle.chain_work.specs.Records.{links_at, record_at, whole_records}
use Rattle.chain_work.specs.RecordsLaws.{is_whole, none_whole, whole_below, whole_links}
use Rattle.rows.specs.Step.{After, Moving, chain_answer, chain_refusal, chain_stepped, moved_to, turned_away}
use Rattle.rows.specs.StepLaws.{step_fits, step_length, step_still, step_taken, step_told}
use Rattle.chain_work.specs.Work.{Progress, at_end, ran_of, turn, turned, worked}

pub no_whole : (r : Record) → ((head more : ℕ) → r ≢ Whole head more) → is_whole r ≡ false
no_whole (Whole head more) t = absurd (t head more refl)
no_whole Leftover t = refl
no_whole End t = refl

answers_length : (outcome : Outcome) (index : ℕ) (room : List ℕ) → length (answers_after outcome index room) ≡ length room
answers_length (Taken answer) index room = put_length room index answer
answers_length (Refused number) index room = refl

steady : (part : Part) (words : ℕ) → Steady (turned part) (fits part words) length
steady part words = record {
  still = λ x row memory some.
      (let still = step_still part x row memory (λ none. some (step_told part x row memory ∙ none)) in
      (ap (λ (a : After). a.row) still, ap (λ (a : After). a.memory) still));
  keeps = λ x row memory e. step_fits part x row memory words e;
  sizes = λ x row memory. step_length part x row memory;
  rooms = λ x row memory. answers_length (chain_stepped part x row memory).outcome;
}

-- the outcome that a number and an answer stand for
abbrev outcome_of : ℕ → ℕ → Outcome
outcome_of number answer = cond (eqb number 0) (Taken answer) (Refused number)

abbrev after_by : ℕ → ℕ → Row → List ℕ → After
after_by number answer row memory = record { outcome = outcome_of number answer; row = row; memory = memory }

number_by : (none : Bool) (number answer : ℕ) → eqb number 0 ≡ none → number ≡ number_of (cond none (Taken answer) (Refused number))
number_by true number answer e = eqb-true number 0 e
number_by false number answer e = refl

answers_by : (none : Bool) (number answer index : ℕ) (room : List ℕ) → cond none (put_answer room index answer) room ≡ answers_after (cond none (Taken answer) (Refused number)) index room
answers_by true number answer index room = refl
answers_by false number answer index room = refl

module _ (part : Part) (x : Links) (before : Row) (words : List ℕ) {number : ℕ} (n : number ≡ chain_refusal part x before) where
  abbrev moved : Bool → Moving
  moved none = moved_to part x before words (cond none before.count 0)

  gave_by : (none : Bool) → eqb number 0 ≡ none → {answer : ℕ} → answer ≡ chain_answer part x.pins (moved none).row
      → chain_stepped part x before words ≡ record { outcome = cond none (Taken answer) (Refused number); row = (moved none).row; memory = (moved none).memory }
  unfolding moved_to
  gave_by true e a = step_taken part x before words (sym n ∙ eqb-true number 0 e) ∙ rw a refl
  gave_by false e a = step_still part x before words (λ z. eqb-false number 0 e (n ∙ z)) ∙ rw n refl

  gave_moved : {moving : ℕ} → moving ≡ cond (eqb number 0) before.count 0 → {row : Row} {memory : List ℕ}
      → (row ≡ (moved_to part x before words moving).row) × (memory ≡ (moved_to part x before words moving).memory) → {answer : ℕ} → answer ≡ chain_answer part x.pins row
      → chain_stepped part x before words ≡ after_by number answer row memory
  gave_moved m d {answer} a =
      let row = d.0 ∙ ap (λ (k : ℕ). (moved_to part x before words k).row) m in
      let memory = d.1 ∙ ap (λ (k : ℕ). (moved_to part x before words k).memory) m in
      gave_by (eqb number 0) refl (a ∙ ap (chain_answer part x.pins) row) ∙ (λ i. after_by number answer (sym row i) (sym memory i))

  gave_refused : number ≢ 0 → chain_stepped part x before words ≡ turned_away number before words
  gave_refused some = step_still part x before words (λ z. some (n ∙ z)) ∙ rw n refl

pub record Going (lenient : Bool) (part : Part) (bytes : List ℕ) (start g : Progress) (index : ℕ) : Type 0 where
  pub turns : loop.Going lenient (turned part) (at_end bytes) (links_at bytes) (whole_records bytes) (fits part (length start.memory)) length start g index

pub going : (lenient : Bool) (part : Part) (bytes : List ℕ) (start : Progress) → fits part (length start.memory) start.state ≡ true → start.accepted ≡ 0
    → Going lenient part bytes start start 0
going lenient part bytes start e z = record {
  turns = loop.going lenient (turned part) (at_end bytes) (links_at bytes) (whole_records bytes) (fits part (length start.memory)) length start e z;
}

module _ {lenient : Bool} {part : Part} {bytes : List ℕ} {start g : Progress} {index : ℕ} (inv : Going lenient part bytes start g index) where
  abbrev fitting : Row → Bool
  fitting = fits part (length start.memory)

  module _ {r : Record} (f : r ≡ record_at bytes index) where
    pub ended_now : {number : ℕ} → is_whole r ≡ false → number ≡ records.number_of r
        → Ends ran_of (worked lenient part bytes start) (record { row = g.state; accepted = g.accepted; index = index; refusal = number })
        g.memory g.answers g.marks
    unfolding worked
    ended_now e n =
        let past = none_whole bytes index (rw f at e) in
        let here : index ≡ whole_records bytes = omega (arith, inv.turns.below) in
        loop.ended_now lenient (turned part) (at_end bytes) (links_at bytes) (whole_records bytes) fitting length start inv.turns ran_of past
        (rw f at n ∙ ap (λ (at : ℕ). records.number_of (record_at bytes at)) here)

    module _ {head more : ℕ} (e : r ≡ Whole head more) {x : Links} (l : x ≡ links_of head more) {number : ℕ} (n : number ≡ chain_refusal part x g.state)
        {stop : Bool} (t : stop ≡ stops lenient number) where
      pub below : index < whole_records bytes
      below = whole_below bytes index (sym f ∙ e)

      told : {a : After} → chain_stepped part x g.state g.memory ≡ a → turned part (links_at bytes index) g.state g.memory ≡ turn a
      told s = ap (λ (y : Links). turned part y g.state g.memory) (whole_links bytes index (sym f ∙ e) ∙ sym l) ∙ ap turn s

      pub stopped_now : stop ≡ true
          → Ends ran_of (worked lenient part bytes start) (record { row = g.state; accepted = g.accepted; index = index; refusal = number })
          g.memory g.answers g.marks
      unfolding worked
      stopped_now s =
          loop.stopped_now lenient (turned part) (at_end bytes) (links_at bytes) (whole_records bytes) fitting length start inv.turns
          (steady part (length start.memory)) below (told (gave_refused part x g.state g.memory n (stopped_number lenient number (sym t ∙ s)))) refl t ran_of s

      module _ {moving : ℕ} (m : moving ≡ cond (eqb number 0) g.state.count 0) {row : Row} {memory : List ℕ}
          (d : (row ≡ (moved_to part x g.state g.memory moving).row) × (memory ≡ (moved_to part x g.state g.memory moving).memory)) {answer : ℕ}
          (a : answer ≡ chain_answer part x.pins row) where
        pub turned_now : {accepted : ℕ} {answers marks : List ℕ} → stop ≡ false → answers ≡ cond (eqb number 0) (put_answer g.answers index answer) g.answers
            → marks ≡ marks_after lenient number index g.marks → accepted ≡ accepted_after number g.accepted
            → Going lenient part bytes start (record { state = row; accepted = accepted; memory = memory; answers = answers; marks = marks }) (index + 1)
        turned_now s k u v = record {
          turns = loop.turned_now lenient (turned part) (at_end bytes) (links_at bytes) (whole_records bytes) fitting length start inv.turns
              (steady part (length start.memory)) below (told (gave_moved part x g.state g.memory n m d a)) (number_by (eqb number 0) number answer refl) t s
              (k ∙ answers_by (eqb number 0) number answer index g.answers) u v;
        }
