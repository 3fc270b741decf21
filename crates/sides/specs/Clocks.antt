-- Trace sample, on the clocks: when one rises.
use Rattle.std.specs.Prelude.{Bool, not, ◌&&◌}
use Rattle.pins.specs.declared.record.Pins.{Pins}
use Rattle.sides.specs.declared.read.ReadSide.{ReadSide}
use Rattle.sides.specs.declared.write.WriteSide.{WriteSide}

-- by the level last accepted and the present one
abbrev pub rises : Bool → Bool → Bool
rises last level = not last && level

unfoldable pub write_rises : Pins → WriteSide → Bool
write_rises p w = rises w.level p.wclk

unfoldable pub read_rises : Pins → ReadSide → Bool
read_rises p r = rises r.level p.rclk
