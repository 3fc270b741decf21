use Rattle.std.proofs.Common.{◌-◌}
use Rattle.notes.specs.Fold.{started}
use Rattle.pins.specs.Trace.{whole_records}
use Rattle.runs.proofs.RunLaws.{Going}
use Rattle.runs.proofs.run.go.Given as goal

abbrev pub invariant-loop-word : goal.invariant-loop-word
invariant-loop-word l =
    Going l.lenient l.part l.trace (started l.fn.state l.fn.memory l.fn.answers l.fn.marks)
    (record { state = l.s; accepted = l.accepted; memory = l.memory; answers = l.answers; marks = l.marks }) l.index

abbrev pub decreases-loop-word : goal.decreases-loop-word
decreases-loop-word l = whole_records l.trace - l.index
