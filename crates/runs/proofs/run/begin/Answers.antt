use Rattle.std.proofs.Common.{sym, ◌∙◌}
use Rattle.chip.specs.Widths.{tested_widths}
use Rattle.notes.specs.BeginLaws.{both_told}
use Rattle.notes.specs.Fold.{started}
use Rattle.notes.specs.LoopLaws.{ends_by, turned_away_lem}
use Rattle.runs.specs.NumberLaws.{room_told}
use Rattle.runs.specs.Run.{ran_of}
use Rattle.runs.proofs.RunLaws.{run_room, run_state, run_unknown, run_works}
use Rattle.runs.proofs.run.begin.Goals as goal

pub returns-in_default : goal.returns-in_default
returns-in_default c =
    let a = c.args in
    turned_away_lem {ran = ran_of}
    (run_unknown a.lenient a.part a.trace.now (started a.state a.memory.now a.answers.now a.marks.now)
    c.look_up-looked_up.ensures c.in_default.is)
    c.end_at.ensures

pub go-requires : goal.go-requires
go-requires c =
    let a = c.args in (
      tested_widths _ a.state (sym c.passes_test.ensures ∙ c.if-passes_test.true),
      room_told a.lenient a.trace.now (started a.state a.memory.now a.answers.now a.marks.now)
          c.in-Some.known
          (both_told c.is_depth-sized.ensures c.is_roomy.ensures c.if-sized-is_roomy.true),
    )

pub returns-then-passes_test : goal.returns-then-passes_test
returns-then-passes_test c =
    let a = c.args in
    ends_by
    (run_works a.lenient a.part a.trace.now (started a.state a.memory.now a.answers.now a.marks.now)
    c.look_up-looked_up.ensures _ c.in-Some.is
    (both_told c.is_depth-sized.ensures c.is_roomy.ensures c.if-sized-is_roomy.true)
    (sym c.passes_test.ensures ∙ c.if-passes_test.true))
    c.go.ensures

pub returns-else-passes_test : goal.returns-else-passes_test
returns-else-passes_test c =
    let a = c.args in
    turned_away_lem {ran = ran_of}
    (run_state a.lenient a.part a.trace.now (started a.state a.memory.now a.answers.now a.marks.now)
    c.look_up-looked_up.ensures _ c.in-Some.is
    (both_told c.is_depth-sized.ensures c.is_roomy.ensures c.if-sized-is_roomy.true)
    (sym c.passes_test.ensures ∙ c.if-passes_test.false))
    c.end_at-else-passes_test.ensures

pub returns-else-sized-is_roomy : goal.returns-else-sized-is_roomy
returns-else-sized-is_roomy c =
    let a = c.args in
    turned_away_lem {ran = ran_of}
    (run_room a.lenient a.part a.trace.now (started a.state a.memory.now a.answers.now a.marks.now)
    c.look_up-looked_up.ensures _ c.in-Some.is
    (both_told c.is_depth-sized.ensures c.is_roomy.ensures c.if-sized-is_roomy.false))
    c.end_at-else-sized-is_roomy.ensures
