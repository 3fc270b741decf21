-- Trace sample, on the clocks: a clock rises exactly where its last accepted level was LOW and it is now HIGH.
use Rattle.std.specs.Prelude.{Bool, true, false, ◌↔◌, ◌≡◌, refl}
use Rattle.std.proofs.lemmas.Bool.{false≢true}
use Rattle.std.proofs.Common.{sym}
use Rattle.pins.specs.declared.record.Pins.{Pins}
use Rattle.sides.specs.declared.read.ReadSide.{ReadSide}
use Rattle.sides.specs.declared.write.WriteSide.{WriteSide}
use Rattle.sides.specs.Clocks.{read_rises, rises, write_rises}

rises_told : (last level : Bool) → (rises last level ≡ true) ↔ ((last ≡ false) × (level ≡ true))
rises_told true level = (λ e. absurd (false≢true e), λ h. sym h.0)
rises_told false level = (λ e. (refl, e), λ h. h.1)

pub write_rises_told : (p : Pins) (w : WriteSide) → (write_rises p w ≡ true) ↔ ((w.level ≡ false) × (p.wclk ≡ true))
unfolding write_rises
write_rises_told p w = rises_told w.level p.wclk

pub read_rises_told : (p : Pins) (r : ReadSide) → (read_rises p r ≡ true) ↔ ((r.level ≡ false) × (p.rclk ≡ true))
unfolding read_rises
read_rises_told p r = rises_told r.level p.rclk
