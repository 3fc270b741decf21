use Rattle.std.proofs.Common.{◌-◌}
use Rattle.notes.specs.Fold.{started}
use Rattle.chain_work.specs.Records.{whole_records}
use Rattle.chain_work.proofs.TurnLaws.{Doing}
use Rattle.chain_work.proofs.WorkLaws.{Going}
use Rattle.chain_work.proofs.work.work.Given as goal

abbrev pub invariant-loop-i : goal.invariant-loop-i
invariant-loop-i l = Doing l.part l.x l.initial.r l.initial.memory l.moving l.memory l.r l.earlier l.i

abbrev pub decreases-loop-i : goal.decreases-loop-i
decreases-loop-i l = l.moving - l.i

abbrev pub invariant-loop-head : goal.invariant-loop-head
invariant-loop-head l =
    Going l.lenient l.part l.trace (started l.initial.r l.initial.memory l.initial.answers l.initial.marks)
    (record { state = l.r; accepted = l.accepted; memory = l.memory; answers = l.answers; marks = l.marks }) l.index

abbrev pub decreases-loop-head : goal.decreases-loop-head
decreases-loop-head l = whole_records l.trace - l.index
