-- What counts as an answer proved: two refusals that meet the promise are the same.
use Rattle.std.specs.Prelude.{ℕ, ◌≡◌, Option}
use Rattle.std.proofs.Common.{sym, ◌∙◌}
use Rattle.chip.specs.declared.state.State.{State}
use Rattle.counts.specs.declared.part.Part.{Part}
use Rattle.pins.specs.declared.record.Pins.{Pins}
use Rattle.refusal_kinds.specs.declared.Refusal.{Refusal}
use Rattle.refusal_kinds.specs.NumberLaws.{number_of_injective}
use Rattle.refusal_kinds.specs.Numbers.{number_of}
use Rattle.refusals.specs.Refuse.{Refuses}

pub refusal_unique : (part : Part) (p : Pins) (s : State) (a b : Option Refusal) → Refuses part p s (number_of a) → Refuses part p s (number_of b) → a ≡ b
refusal_unique part p s a b e f = number_of_injective a b (e ∙ sym f)

-- and so are the numbers that it speaks of
pub refusal_numbers_unique : (part : Part) (p : Pins) (s : State) (a b : ℕ) → Refuses part p s a → Refuses part p s b → a ≡ b
refusal_numbers_unique part p s a b e f = e ∙ sym f
