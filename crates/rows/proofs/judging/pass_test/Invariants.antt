use Rattle.std.proofs.Common.{◌≡◌}
use Rattle.rows.specs.Step.{passes_to}
use Rattle.rows.proofs.judging.pass_test.Given as goal

abbrev pub invariant-loop-i : goal.invariant-loop-i
invariant-loop-i l = l.pass ≡ passes_to l.part l.row l.i
