-- A record that is never refused and moves only what is remembered of the pins: a Master Reset before, no reset and no rise now.
use Rattle.std.specs.Prelude.{ℕ, Bool, ◌&&◌}
use Rattle.chip.specs.declared.state.State.{State}
use Rattle.chip.specs.Quiet.{quiet}
use Rattle.pins.specs.Record.{pins_of}

unfoldable pub still : ℕ → State → Bool
still x s = s.started && quiet (pins_of x) s
