use Rattle.std.proofs.Common.{◌*◌, ◌≤◌}
use Rattle.lines.proofs.records.Lines.put.Given as goal

abbrev pub invariant-loop-i : goal.invariant-loop-i
invariant-loop-i l = l.at ≤ l.i * 50
