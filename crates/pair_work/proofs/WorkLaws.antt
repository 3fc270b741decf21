-- The work on the samples of two parts, in the words of the code: what the calls of one turn gave.
use Prim.Native.Nat.{ℕ, ◌+◌, ◌*◌, ◌<◌}
use mathlib.Core.Bool.{Bool, true, false, ◌&&◌, and-eq-true_iff}
use mathlib.Core.List.{List}
use mathlib.Core.Path.{◌≡◌, refl, sym, ap, ◌∙◌}
use lib.ListN.{length}
use native.Mathlib.Omega.{arith}
use Rattle.chip.specs.State.{widths}
use Rattle.counts.specs.declared.part.Part.{Part}
use Rattle.notes.specs.Fold.{Ends, accepted_after, marks_after, stops}
use Rattle.notes.specs.LoopLaws as loop
use Rattle.notes.specs.LoopLaws.{Steady}
use Rattle.notes.specs.NoteLaws.{put_length}
use Rattle.pair.specs.Outcome.{Outcome, Refused, Sampled, Taken}
use Rattle.halves.specs.declared.state.Halves.{Halves}
use Rattle.pair.specs.Sample.{After, Gives, answers_after, number_of, pair_stepped}
use Rattle.pair.specs.SampleLaws.{step_lengths, step_numbered, step_widths}
use Rattle.halves.specs.Two.{Two, two}
use Rattle.pair_work.specs.declared.samples.Sample.{Sample}
use Rattle.pair_work.specs.declared.samples.Sample.TheVariants.{Whole, Leftover, End}
use Rattle.pair_work.specs.Work.{Progress, at_end, ran_of, turn, turned, worked}
use Rattle.pair_work.specs.Samples as samples
use Rattle.pair_work.specs.Samples.{records_at, sample_at, whole_samples}
use Rattle.pair_work.specs.SamplesLaws.{is_whole, none_whole, whole_below, whole_records_lem}

pub no_whole : (r : Sample) → ((left right : ℕ) → r ≡ Whole left right → ⊥) → is_whole r ≡ false
no_whole (Whole left right) other = absurd (other left right refl)
no_whole Leftover other = refl
no_whole End other = refl

answers_length : (outcome : Outcome) (index : ℕ) (room : List ℕ) → length (answers_after outcome index room) ≡ length room
answers_length (Taken left right) index room = put_length _ (index * 2 + 1) right ∙ put_length room (index * 2) left
answers_length (Refused number) index room = refl

-- the widths of both halves, and the lengths of both memories
abbrev widths_both : Part → Halves → Bool
widths_both part h = widths part h.left && widths part h.right

abbrev lengths : Two (List ℕ) → Two ℕ
lengths memory = two (length memory.left) (length memory.right)

pub both_wide : (part : Part) (h : Halves) → (widths part h.left ≡ true) × (widths part h.right ≡ true) → widths_both part h ≡ true
both_wide part h = (and-eq-true_iff (widths part h.left) (widths part h.right)).1

pub each_wide : (part : Part) (h : Halves) → widths_both part h ≡ true → (widths part h.left ≡ true) × (widths part h.right ≡ true)
each_wide part h = (and-eq-true_iff (widths part h.left) (widths part h.right)).0

steady : (part : Part) → Steady (turned part) (widths_both part) lengths
steady part = record {
  still = λ x h memory some.
      (let n = step_numbered part x h memory in
      let still = n.still (λ none. some (n.told ∙ none)) in
      (ap (λ (a : After). a.sampled.state) still, ap (λ (a : After). a.memory) still));
  keeps = λ x h memory e. (let both = each_wide part h e in both_wide part _ (step_widths part x h memory both.0 both.1));
  sizes = λ x h memory. (let same = step_lengths part x h memory in λ i. two (same.0 i) (same.1 i));
  rooms = λ x h memory. answers_length (pair_stepped part x h memory).sampled.outcome;
}

pub record Going (lenient : Bool) (part : Part) (bytes : List ℕ) (start g : Progress) (index : ℕ) : Type 0 where
  pub turns : loop.Going lenient (turned part) (at_end bytes) (records_at bytes) (whole_samples bytes) (widths_both part) lengths start g index

pub going : (lenient : Bool) (part : Part) (bytes : List ℕ) (start : Progress) → widths_both part start.state ≡ true → start.accepted ≡ 0
    → Going lenient part bytes start start 0
going lenient part bytes start e z = record {
  turns = loop.going lenient (turned part) (at_end bytes) (records_at bytes) (whole_samples bytes) (widths_both part) lengths start e z;
}

module _ {lenient : Bool} {part : Part} {bytes : List ℕ} {start g : Progress} {index : ℕ} (inv : Going lenient part bytes start g index) where
  module _ {r : Sample} (f : r ≡ sample_at bytes index) where
    pub ended_now : {number : ℕ} → is_whole r ≡ false → number ≡ samples.number_of r
        → Ends ran_of (worked lenient part bytes start) (record { state = g.state; accepted = g.accepted; index = index; refusal = number })
        g.memory g.answers g.marks
    unfolding worked
    ended_now e n =
        let past = none_whole bytes index (rw f at e) in
        let here : index ≡ whole_samples bytes = omega (arith, inv.turns.below) in
        loop.ended_now lenient (turned part) (at_end bytes) (records_at bytes) (whole_samples bytes) (widths_both part) lengths start inv.turns ran_of past
        (rw f at n ∙ ap (λ (at : ℕ). samples.number_of (sample_at bytes at)) here)

    module _ {left right : ℕ} (e : r ≡ Whole left right) {a : Sampled} {memory : Two (List ℕ)}
        (gives : Gives (pair_stepped part (two left right) g.state g.memory) a memory) {number : ℕ} (n : number ≡ number_of a.outcome) {stop : Bool}
        (t : stop ≡ stops lenient number) where
      below : index < whole_samples bytes
      below = whole_below bytes index (sym f ∙ e)

      gave : turned part (records_at bytes index) g.state g.memory ≡ turn (record { sampled = a; memory = memory })
      gave =
          ap (λ (x : Two ℕ). turned part x g.state g.memory) (whole_records_lem bytes index (sym f ∙ e))
          ∙ (λ i. turn (record { sampled = sym gives.result i; memory = sym gives.words i }))

      pub stopped_now : stop ≡ true
          → Ends ran_of (worked lenient part bytes start) (record { state = a.state; accepted = g.accepted; index = index; refusal = number })
          memory g.answers g.marks
      unfolding worked
      stopped_now =
          loop.stopped_now lenient (turned part) (at_end bytes) (records_at bytes) (whole_samples bytes) (widths_both part) lengths start inv.turns
          (steady part) below gave n t ran_of

      pub turned_now : {accepted : ℕ} {answers marks : List ℕ} → stop ≡ false → answers ≡ answers_after a.outcome index g.answers
          → marks ≡ marks_after lenient number index g.marks → accepted ≡ accepted_after number g.accepted
          → Going lenient part bytes start (record { state = a.state; accepted = accepted; memory = memory; answers = answers; marks = marks }) (index + 1)
      turned_now s l k m = record {
        turns = loop.turned_now lenient (turned part) (at_end bytes) (records_at bytes) (whole_samples bytes) (widths_both part) lengths start inv.turns
            (steady part) below gave n t s l k m;
      }
