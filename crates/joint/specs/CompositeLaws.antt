-- The composite flags, sentence by sentence, and the timing mode that they go by.
use Rattle.std.specs.Prelude.{ℕ, Bool, true, false, cond, ◌||◌, ◌↔◌, ◌≡◌, refl}
use Rattle.std.proofs.Math.Bool.{and-eq-true_iff}
use Rattle.std.proofs.Common.{true≢false}
use Rattle.chip.specs.Reset.{selected_mode}
use Rattle.chip.specs.ResetLaws.{is_fwft, selected_fwft}
use Rattle.pins.specs.Record.{bit, pins_of}
use Rattle.sides.specs.declared.read.Mode.{Mode}
use Rattle.sides.specs.declared.read.Mode.TheVariants.{Standard, Fwft}
use Rattle.joint.specs.declared.composite.Composite.{Composite}
use Rattle.joint.specs.Composite.{Composes, ModeAfter, composite_of, mode_next}

or_low : (left right : Bool) → (left || right ≡ false) ↔ ((left ≡ false) × (right ≡ false))
or_low true right = (λ e. absurd (true≢false e), λ e. e.0)
or_low false right = (λ e. (refl, e), λ e. e.1)

module _ (left right : ℕ) where
  pub standard_ff : ((composite_of Standard left right).ff ≡ true) ↔ ((bit 23 left ≡ true) × (bit 23 right ≡ true))
  unfolding composite_of
  standard_ff = and-eq-true_iff (bit 23 left) (bit 23 right)

  pub standard_ef : ((composite_of Standard left right).ef ≡ true) ↔ ((bit 22 left ≡ true) × (bit 22 right ≡ true))
  unfolding composite_of
  standard_ef = and-eq-true_iff (bit 22 left) (bit 22 right)

  pub fwft_ir : (untaken : Bool) → ((composite_of (Fwft untaken) left right).ff ≡ false) ↔ ((bit 23 left ≡ false) × (bit 23 right ≡ false))
  unfolding composite_of
  fwft_ir untaken = or_low (bit 23 left) (bit 23 right)

  pub fwft_or : (untaken : Bool) → ((composite_of (Fwft untaken) left right).ef ≡ false) ↔ ((bit 22 left ≡ false) × (bit 22 right ≡ false))
  unfolding composite_of
  fwft_or untaken = or_low (bit 22 left) (bit 22 right)

selected_by : (mrs fwft : Bool) (mode : Mode) → is_fwft (cond mrs mode (selected_mode fwft)) ≡ cond mrs (is_fwft mode) fwft
selected_by true fwft mode = refl
selected_by false fwft mode = selected_fwft fwft

pub next_fwft : (mode : Mode) (x : ℕ) → is_fwft (mode_next mode x) ≡ cond (pins_of x).mrs (is_fwft mode) (pins_of x).fwft
next_fwft mode x = selected_by (pins_of x).mrs (pins_of x).fwft mode

-- What meets the promises: the composite flags of the two answers, and the mode that MRS, bit 31, and FWFT/SI, bit 22, leave.
pub composed_told : (mode : Mode) (left right : ℕ) (r : Composite) → Composes mode left right r → r ≡ composite_of mode left right
composed_told mode left right r e = e

pub mode_after_told : (mode : Mode) (x : ℕ) (r : Mode) → ModeAfter mode x r → is_fwft r ≡ cond (bit 31 x) (is_fwft mode) (bit 22 x)
mode_after_told mode x r e = rw e (next_fwft mode x)
