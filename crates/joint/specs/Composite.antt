-- Two parts side by side: the composite flags, from the mode and the two answers.
use Rattle.std.specs.Prelude.{ℕ, ◌%◌, Bool, cond, ◌&&◌, ◌||◌, ◌≡◌, eqb}
use Rattle.chip.specs.Reset.{selected_mode}
use Rattle.pins.specs.Record.{bit, pins_of}
use Rattle.sides.specs.declared.read.Mode.{Mode}
use Rattle.sides.specs.declared.read.Mode.TheVariants.{Standard, Fwft}
use Rattle.joint.specs.declared.composite.Composite.{Composite}

-- EF and FF: HIGH only where both are; OR and IR: LOW only where both are
abbrev pub level : Mode → Bool → Bool → Bool
level Standard left right = left && right
level (Fwft untaken) left right = left || right

abbrev pub is_odd : ℕ → Bool
is_odd x = eqb (x % 2) 1

-- FF/IR is bit 23 of an answer, EF/OR bit 22
unfoldable pub composite_of : Mode → ℕ → ℕ → Composite
composite_of mode left right = record { ff = level mode (bit 23 left) (bit 23 right); ef = level mode (bit 22 left) (bit 22 right) }

abbrev pub Composes : Mode → ℕ → ℕ → Composite → Type 0
Composes mode left right r = r ≡ composite_of mode left right

-- MRS LOW selects the mode by FWFT/SI, everything else keeps it
abbrev pub mode_next : Mode → ℕ → Mode
mode_next mode x = cond (pins_of x).mrs mode (selected_mode (pins_of x).fwft)

abbrev pub ModeAfter : Mode → ℕ → Mode → Type 0
ModeAfter mode x r = r ≡ mode_next mode x
