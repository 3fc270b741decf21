use Rattle.std.proofs.Common.{◌≡◌}
use Rattle.rows.specs.Row.{stored_to}
use Rattle.chain.proofs.store.Given as goal

abbrev pub invariant-loop-i : goal.invariant-loop-i
invariant-loop-i l = l.states ≡ stored_to l.row l.initial.states l.i
