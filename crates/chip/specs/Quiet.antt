-- A sample outside reset in which no clock rises: the state with what is remembered of the pins.
use Rattle.std.specs.Prelude.{Bool, not, ◌&&◌, ◌||◌}
use Rattle.pins.specs.declared.record.Pins.{Pins}
use Rattle.sides.specs.Clocks.{read_rises, write_rises}
use Rattle.sides.specs.Held.{held_read, held_write}
use Rattle.chip.specs.declared.state.State.{State}
use Rattle.chip.specs.Enables.{enables_after}

abbrev pub clock_rises : Pins → State → Bool
clock_rises p s = write_rises p s.write || read_rises p s.read

unfoldable pub quiet : Pins → State → Bool
quiet p s = p.mrs && p.prs && not (clock_rises p s)

unfoldable pub held : Pins → State → State
held p s = record {
  started = s.started;
  write = held_write p.wclk s.write.latest s.write.view s.write;
  read = held_read p.rclk s.read.latest s.read;
  offsets = s.offsets;
  reading = s.reading;
  enables = enables_after p s.enables;
}
