-- A refused sample moves nothing, a taken one keeps the widths, and the memory keeps its length.
use Rattle.std.specs.Prelude.{ℕ, Bool, true, false, cond, List, ◌≡◌, refl, eqb, length, Some, Option, None}
use Rattle.chip.specs.declared.advance.Put.{Put}
use Rattle.std.proofs.Common.{length-set, arith}
use Rattle.chip.specs.declared.advance.Advanced.{Advanced}
use Rattle.chip.specs.declared.state.State.{State}
use Rattle.chip.specs.Advance.{advanced, stored}
use Rattle.chip.specs.State.{passes, widths}
use Rattle.chip.specs.Widths.{widths_stay}
use Rattle.counts.specs.declared.part.Part.{Part}
use Rattle.counts.specs.Part.{part_of}
use Rattle.pins.specs.Record.{pins_of}
use Rattle.fifo.specs.Outcome.{Refused}
use Rattle.fifo.specs.Sample.{fetched_for, is_depth, record_refusal, sampled, stepped, taken, took, turned_away}

refused_by : (takes : Bool) (a : Advanced) (number found : ℕ) (s : State) (memory : List ℕ)
    → (cond takes (took a memory) (turned_away number s memory)).sampled.outcome ≡ Refused found
    → cond takes (took a memory) (turned_away number s memory) ≡ turned_away found s memory
refused_by true a number found s memory e = let z : ◌≡◌ {A = ℕ} 0 1 = cc in absurd (omega arith)
refused_by false a number found s memory e = let same : number ≡ found = cc in rw same

widths_by : (takes : Bool) (part : Part) (a : Advanced) (number : ℕ) (s : State) (memory : List ℕ)
    → widths part a.state ≡ true → widths part s ≡ true
    → widths part (cond takes (took a memory) (turned_away number s memory)).sampled.state ≡ true
widths_by true part a number s memory f e = f
widths_by false part a number s memory f e = e

pub stored_length : (store : Option Put) (memory : List ℕ) → length (stored store memory) ≡ length memory
stored_length None memory = refl
stored_length (Some put) memory = length-set memory put.place put.word

length_by : (takes : Bool) (a : Advanced) (number : ℕ) (s : State) (memory : List ℕ)
    → length (cond takes (took a memory) (turned_away number s memory)).memory ≡ length memory
length_by true a number s memory = stored_length a.store memory
length_by false a number s memory = refl

module _ (part : Part) (x : ℕ) (s : State) (memory : List ℕ) where
  pub refused_still : (number : ℕ) → (stepped part x s memory).sampled.outcome ≡ Refused number → stepped part x s memory ≡ turned_away number s memory
  unfolding stepped taken
  refused_still number =
      refused_by (eqb (record_refusal part x s) 0) (advanced part (pins_of x) (fetched_for part s memory) s) (record_refusal part x s) number s memory

  pub step_widths : widths part s ≡ true → widths part (stepped part x s memory).sampled.state ≡ true
  unfolding stepped taken
  step_widths e =
      widths_by (eqb (record_refusal part x s) 0) part (advanced part (pins_of x) (fetched_for part s memory) s) (record_refusal part x s) s memory
      (widths_stay part (pins_of x) (fetched_for part s memory) s e) e

  pub step_length : length (stepped part x s memory).memory ≡ length memory
  unfolding stepped taken
  step_length = length_by (eqb (record_refusal part x s) 0) (advanced part (pins_of x) (fetched_for part s memory) s) (record_refusal part x s) s memory

-- a sample for a part, a memory and a state that pass 1 to 3 is the step
pub sample_is_step : (number x : ℕ) (s : State) (memory : List ℕ) (part : Part) → part_of number ≡ Some part → is_depth part (length memory) ≡ true
    → passes part s ≡ true → sampled number x s memory ≡ stepped part x s memory
unfolding sampled
sample_is_step number x s memory part k d t = simp (k, d, t)
