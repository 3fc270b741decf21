-- The loop of a run, in the words of the code: what the calls of one turn gave.
use Prim.Native.Nat.{ℕ, ◌+◌, ◌*◌, ◌<◌}
use mathlib.Core.Bool.{Bool, true, false}
use mathlib.Core.List.{List}
use mathlib.Core.Path.{◌≡◌, refl, sym, ap, ◌∙◌}
use lib.ListN.{length}
use native.Mathlib.Omega.{arith}
use Rattle.std.specs.Prelude.{None, Option, Some}
use Rattle.chip.specs.State.{passes, widths}
use Rattle.counts.specs.declared.part.Part.{Part}
use Rattle.counts.specs.Part.{part_of}
use Rattle.fifo.specs.Outcome.{Outcome, Refused, Sampled, Taken}
use Rattle.fifo.specs.NumberLaws.{step_numbered}
use Rattle.fifo.specs.Sample.{After, Gives, answers_after, number_of, stepped}
use Rattle.fifo.specs.SampleLaws.{step_length, step_widths}
use Rattle.notes.specs.BeginLaws as begin
use Rattle.notes.specs.Fold.{Ends, accepted_after, ended, marks_after, stops}
use Rattle.notes.specs.LoopLaws as loop
use Rattle.notes.specs.LoopLaws.{Steady}
use Rattle.notes.specs.NoteLaws.{put_length}
use Rattle.pins.specs.declared.trace.Record.{Record}
use Rattle.pins.specs.declared.trace.Record.TheVariants.{Whole, Leftover, End}
use Rattle.pins.specs.Trace as trace
use Rattle.pins.specs.Trace.{record_at, whole_records, word_at}
use Rattle.pins.specs.TraceLaws.{is_whole, none_whole, whole_below, whole_word}
use Rattle.runs.specs.Run.{Progress, at_end, fitting, ran_of, run_of, turn, turned, worked}

pub no_whole : (r : Record) → ((word : ℕ) (unsettled : Bool) → r ≡ Whole word unsettled → ⊥) → is_whole r ≡ false
no_whole (Whole word unsettled) other = absurd (other word unsettled refl)
no_whole Leftover other = refl
no_whole End other = refl

answers_length : (outcome : Outcome) (index : ℕ) (room : List ℕ) → length (answers_after outcome index room) ≡ length room
answers_length (Taken answer) index room = put_length room index answer
answers_length (Refused number) index room = refl

steady : (part : Part) → Steady (turned part) (widths part) length
steady part = record {
  still = λ x s memory some.
      (let n = step_numbered s memory x part in
      let still = n.still (λ none. some (n.told ∙ none)) in
      (ap (λ (a : After). a.sampled.state) still, ap (λ (a : After). a.memory) still));
  keeps = step_widths part;
  sizes = step_length part;
  rooms = λ x s memory. answers_length (stepped part x s memory).sampled.outcome;
}

pub record Going (lenient : Bool) (part : Part) (bytes : List ℕ) (start g : Progress) (index : ℕ) : Type 0 where
  pub turns : loop.Going lenient (turned part) (at_end bytes) (λ at. word_at bytes (at * 4)) (whole_records bytes) (widths part) length start g index

pub going : (lenient : Bool) (part : Part) (bytes : List ℕ) (start : Progress) → widths part start.state ≡ true → start.accepted ≡ 0
    → Going lenient part bytes start start 0
going lenient part bytes start e z = record {
  turns = loop.going lenient (turned part) (at_end bytes) (λ at. word_at bytes (at * 4)) (whole_records bytes) (widths part) length start e z;
}

module _ {lenient : Bool} {part : Part} {bytes : List ℕ} {start g : Progress} {index : ℕ} (inv : Going lenient part bytes start g index) {r : Record}
    (f : r ≡ record_at bytes index) where
  pub ended_now : {number : ℕ} → is_whole r ≡ false → number ≡ trace.number_of r
      → Ends ran_of (worked lenient part bytes start) (record { state = g.state; accepted = g.accepted; index = index; refusal = number })
      g.memory g.answers g.marks
  unfolding worked
  ended_now e n =
      let past = none_whole bytes index (rw f at e) in
      let here : index ≡ whole_records bytes = omega (arith, inv.turns.below) in
      loop.ended_now lenient (turned part) (at_end bytes) (λ at. word_at bytes (at * 4)) (whole_records bytes) (widths part) length start inv.turns ran_of past
      (rw f at n ∙ ap (λ (at : ℕ). trace.number_of (record_at bytes at)) here)

  module _ {word : ℕ} {unsettled : Bool} (e : r ≡ Whole word unsettled) {a : Sampled} {memory : List ℕ} (gives : Gives (stepped part word g.state g.memory) a memory)
      {number : ℕ} (n : number ≡ number_of a.outcome) {stop : Bool} (t : stop ≡ stops lenient number) where
    below : index < whole_records bytes
    below = whole_below bytes index (sym f ∙ e)

    gave : turned part (word_at bytes (index * 4)) g.state g.memory ≡ turn (record { sampled = a; memory = memory })
    gave = rw (whole_word bytes index (sym f ∙ e)) (λ i. turn (record { sampled = sym gives.result i; memory = sym gives.words i }))

    pub stopped_now : stop ≡ true
        → Ends ran_of (worked lenient part bytes start) (record { state = a.state; accepted = g.accepted; index = index; refusal = number })
        memory g.answers g.marks
    unfolding worked
    stopped_now =
        loop.stopped_now lenient (turned part) (at_end bytes) (λ at. word_at bytes (at * 4)) (whole_records bytes) (widths part) length start inv.turns
        (steady part) below gave n t ran_of

    pub turned_now : {accepted : ℕ} {answers marks : List ℕ} → stop ≡ false → answers ≡ answers_after a.outcome index g.answers
        → marks ≡ marks_after lenient number index g.marks → accepted ≡ accepted_after number g.accepted
        → Going lenient part bytes start (record { state = a.state; accepted = accepted; memory = memory; answers = answers; marks = marks }) (index + 1)
    turned_now s l k m = record {
      turns = loop.turned_now lenient (turned part) (at_end bytes) (λ at. word_at bytes (at * 4)) (whole_records bytes) (widths part) length start inv.turns
          (steady part) below gave n t s l k m;
    }

module _ (lenient : Bool) (number : ℕ) (bytes : List ℕ) (g : Progress) {looked : Option Part} (l : looked ≡ part_of number) where
  pub run_unknown : looked ≡ None → run_of lenient number bytes g ≡ ended 1 0 g
  unfolding run_of
  run_unknown = begin.begun_unknown number _ _ _ g l

  module _ (part : Part) (k : looked ≡ Some part) where
    pub run_room : fitting lenient bytes g part ≡ false → run_of lenient number bytes g ≡ ended 2 0 g
    unfolding run_of
    run_room = begin.begun_room number _ _ _ g l part k

    pub run_state : fitting lenient bytes g part ≡ true → passes part g.state ≡ false → run_of lenient number bytes g ≡ ended 3 0 g
    unfolding run_of
    run_state = begin.begun_state number _ _ _ g l part k

    pub run_works : fitting lenient bytes g part ≡ true → passes part g.state ≡ true → run_of lenient number bytes g ≡ worked lenient part bytes g
    unfolding run_of
    run_works = begin.begun_works number _ _ _ g l part k
