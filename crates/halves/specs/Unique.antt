-- What counts as an answer proved, of two parts side by side: two outcomes that meet an operation's promise are the same.
use Rattle.std.specs.Prelude.{Bool, ◌≡◌}
use Rattle.std.proofs.Common.{sym, ◌∙◌}
use Rattle.counts.specs.declared.part.Part.{Part}
use Rattle.halves.specs.declared.state.Halves.{Halves}
use Rattle.halves.specs.State.{PoweredUp, Tested}

pub power_up_unique : (a b : Halves) → PoweredUp a → PoweredUp b → a ≡ b
power_up_unique a b e f = e ∙ sym f

pub test_unique : (part : Part) (h : Halves) (a b : Bool) → Tested part h a → Tested part h b → a ≡ b
test_unique part h a b e f = e ∙ sym f
