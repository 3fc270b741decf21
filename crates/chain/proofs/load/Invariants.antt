use Rattle.std.proofs.Common.{◌≡◌}
use Rattle.rows.specs.Row.{loaded}
use Rattle.chain.proofs.load.Given as goal

abbrev pub invariant-loop-i : goal.invariant-loop-i
invariant-loop-i l = l.row ≡ loaded l.states l.i
