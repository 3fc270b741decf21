use Rattle.refusal_kinds.specs.Numbers.{number_of}
use Rattle.rows.proofs.JudgeLaws.{Judging}
use Rattle.rows.proofs.judging.refusal.Given as goal

abbrev pub invariant-loop-i : goal.invariant-loop-i
invariant-loop-i l = Judging l.part l.x l.row l.earlier l.started (number_of l.least) l.i
