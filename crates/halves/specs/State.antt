-- Two parts side by side: the state at power-up, and the test of 3.
use Rattle.std.specs.Prelude.{Bool, not, ◌&&◌, ◌||◌, ◌≡◌}
use Rattle.chip.specs.Reset.{powered_up}
use Rattle.chip.specs.ResetLaws.{is_fwft}
use Rattle.chip.specs.State.{passes}
use Rattle.counts.specs.declared.part.Part.{Part}
use Rattle.halves.specs.declared.state.Halves.{Halves}

abbrev pub powered_up_both : Halves
powered_up_both = record { left = powered_up; right = powered_up }

abbrev pub PoweredUp : Halves → Type 0
PoweredUp r = r ≡ powered_up_both

abbrev pub alike : Bool → Bool → Bool
alike left right = left && right || not left && not right

-- not refused 3: each half passes its own test, and both are in one timing mode, before a Master Reset too
unfoldable pub passes_both : Part → Halves → Bool
passes_both part h =
    passes part h.left && passes part h.right && alike (is_fwft h.left.read.mode) (is_fwft h.right.read.mode)

abbrev pub Tested : Part → Halves → Bool → Type 0
Tested part h r = r ≡ passes_both part h
