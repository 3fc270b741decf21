-- Each turn leaves less to fill, and what came is what the reader has given.
use Rattle.std.proofs.Common.{◌-◌, ◌<◌, ◌^◌, ◌≡◌, ◌≤◌, length, take}
use Rattle.std.specs.Io.KnownBytes.{Consumes}
use Rattle.input.proofs.chunks.read.Given as goal

abbrev pub invariant-loop-came : goal.invariant-loop-came
invariant-loop-came g l = record {
  same_length : length l.chunk ≡ length l.initial.chunk;
  within : l.came ≤ length l.chunk;
  fits : length l.chunk < 2 ^ 64;
  given : Consumes (g.R.Read.remaining l.initial.input) (g.R.Read.remaining l.input) (take l.came l.chunk);
}

abbrev pub decreases-loop-came : goal.decreases-loop-came
decreases-loop-came g l = length l.chunk - l.came
