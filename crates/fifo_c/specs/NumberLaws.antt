-- What is turned away, Bench figures: which number the C call gives, by the verdict (NumberLaws.antt of buffers) and by the record. Lengths and part
-- numbers stand in plain figures, so that a definition that says another is refused here.
use Rattle.std.specs.Prelude.{ℕ, Bool, true, false, List, ◌≢◌, ◌≡◌, refl, eqb, length}
use Rattle.std.proofs.Common.{sym, eq-eqb, eqb-true, ne_eqb}
use Rattle.buffers.specs.Verdict.{Work, Refuse}
use Rattle.buffers.specs.NumberLaws.{memory_length}
use Rattle.buffers.specs.Verdict.{judged}
use Rattle.counts.specs.declared.part.Part.{Part}
use Rattle.counts.specs.declared.part.Part.TheVariants.{Idt72V255LA, Idt72V265LA}
use Rattle.fifo.specs.NumberLaws.{asked_by, by_pins}
use Rattle.pins.specs.Record.{pins_of}
use Rattle.refusals.specs.Refuse.{refusal_of}
use Rattle.spelling.specs.Spelling.{state_in}
use Rattle.call_work.specs.Work.{decided, taken, worked}
use Rattle.fifo_c.specs.Call.{called, memory_for, powered}

-- 0 stands for no refusal of the record, and for a record taken
taken_by : (part : Part) (x : ℕ) (state memory answer : List ℕ) (refusal : ℕ) (free : Bool) → eqb refusal 0 ≡ free
    → (decided free refusal part x state memory answer).code ≡ refusal
unfolding taken
taken_by part x state memory answer refusal true e = sym (eqb-true refusal 0 e)
taken_by part x state memory answer refusal false e = refl

module _ (number : ℕ) (bytes state memory answer : List ℕ) where
  -- 1 to 4
  pub as_judged : (refusal : ℕ) → judged number bytes state (length memory) (length answer) ≡ Refuse refusal
      → (called number bytes state memory answer).code ≡ refusal
  unfolding called
  as_judged refusal e = simp e

  module _ (part : Part) (x : ℕ) (works : judged number bytes state (length memory) (length answer) ≡ Work part x) where
    -- 5 to 10 and 12, or 0 where the record is taken
    pub rest_by_pins : (called number bytes state memory answer).code ≡ refusal_of part (pins_of x) (state_in state)
    unfolding called worked
    rest_by_pins =
        let refusal = refusal_of part (pins_of x) (state_in state) in
        simp (works, by_pins part x (state_in state)) (taken_by part x state memory answer refusal (eqb refusal 0) refl)

module _ (state : List ℕ) where
  pub power_up_gives_zero : length state ≡ 52 → (powered state).code ≡ 0
  unfolding powered
  power_up_gives_zero e = simp (eq-eqb (length state) 52 e)

  pub power_up_gives_two : length state ≢ 52 → (powered state).code ≡ 2
  unfolding powered
  power_up_gives_two n = simp (ne_eqb (length state) 52 n)

-- the length of a memory, 0 where the number is no part's
pub memory_asked : (part : Part) → memory_for (asked_by part) ≡ memory_length part
memory_asked Idt72V255LA = refl
memory_asked Idt72V265LA = refl

pub no_memory : (number : ℕ) → number ≢ 255 → number ≢ 265 → memory_for number ≡ 0
no_memory number n m = simp (ne_eqb number 255 n, ne_eqb number 265 m)
