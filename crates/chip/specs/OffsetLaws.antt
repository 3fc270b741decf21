-- Offsets: outside reset they are loaded at the rises of WCLK and read at those of RCLK, and no pin has a say in which these are.
use Rattle.std.specs.Prelude.{ℕ}
use Rattle.counts.specs.declared.part.Part.{Part}
use Rattle.offsets.specs.LoadLaws.{Loading, loading}
use Rattle.offsets.specs.ReadLaws.{Showing, showing}
use Rattle.pins.specs.declared.record.Pins.{Pins}
use Rattle.sides.specs.Clocks.{read_rises, write_rises}
use Rattle.chip.specs.declared.state.State.{State}
use Rattle.chip.specs.Advance.{running, state_after}
use Rattle.chip.specs.Levels.{Outside, ReadRise, WriteRise}
use Rattle.chip.specs.Tells.{high_where, read_rise, write_rise}

module _ (part : Part) (p : Pins) (fetched : ℕ) (s : State) (outside : Outside p) where
  pub offsets_loaded : Loading part p (WriteRise p s) s.offsets (state_after part p fetched s).offsets
  unfolding state_after running
  offsets_loaded = simp (outside.0, outside.1) (loading part p (write_rises p s.write) s.offsets (high_where (write_rise p s)))

  pub offset_read : Showing p (ReadRise p s) s.offsets s.reading (state_after part p fetched s).reading
  unfolding state_after running
  offset_read = simp (outside.0, outside.1) (showing p (read_rises p s.read) s.offsets s.reading (high_where (read_rise p s)))
