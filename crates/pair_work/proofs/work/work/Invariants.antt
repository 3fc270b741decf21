use Rattle.std.proofs.Common.{◌-◌}
use Rattle.halves.specs.Two.{two}
use Rattle.notes.specs.Fold.{started}
use Rattle.pair_work.specs.Samples.{whole_samples}
use Rattle.pair_work.proofs.WorkLaws.{Going}
use Rattle.pair_work.proofs.work.work.Given as goal

abbrev pub invariant-loop-left : goal.invariant-loop-left
invariant-loop-left l =
    Going l.lenient l.part l.trace (started l.fn.state (two l.fn.left_memory l.fn.right_memory) l.fn.answers l.fn.marks)
    (record { state = l.s; accepted = l.accepted; memory = two l.left_memory l.right_memory; answers = l.answers; marks = l.marks }) l.index

abbrev pub decreases-loop-left : goal.decreases-loop-left
decreases-loop-left l = whole_samples l.trace - l.index
