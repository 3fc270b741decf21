-- What counts as an answer proved: two outcomes that meet an operation's promise are the same.
use Rattle.std.specs.Prelude.{ℕ, Bool, ◌≡◌}
use Rattle.std.proofs.Common.{sym, ◌∙◌}
use Rattle.counts.specs.declared.part.Part.{Part}
use Rattle.pins.specs.declared.record.Pins.{Pins}
use Rattle.chip.specs.declared.advance.Advanced.{Advanced}
use Rattle.chip.specs.declared.state.State.{State}
use Rattle.chip.specs.Advance.{Advances}
use Rattle.chip.specs.Reset.{PoweredUp}
use Rattle.chip.specs.State.{Tested}

pub power_up_unique : (a b : State) → PoweredUp a → PoweredUp b → a ≡ b
power_up_unique a b e f = e ∙ sym f

pub test_unique : (part : Part) (s : State) (a b : Bool) → Tested part s a → Tested part s b → a ≡ b
test_unique part s a b e f = e ∙ sym f

pub advance_unique : (part : Part) (p : Pins) (fetched : ℕ) (s : State) (a b : Advanced)
    → Advances part p fetched s a → Advances part p fetched s b → a ≡ b
advance_unique part p fetched s a b e f = e ∙ sym f
