use Rattle.std.proofs.Common.{sym, ◌∙◌}
use Rattle.halves.specs.StateLaws.{tested_both_widths}
use Rattle.halves.specs.Two.{two}
use Rattle.notes.specs.BeginLaws.{both_told}
use Rattle.notes.specs.Fold.{started}
use Rattle.notes.specs.LoopLaws.{ends_by, turned_away_lem}
use Rattle.pair_work.specs.Work.{ran_of}
use Rattle.pair_runs.specs.NumberLaws.{room_told}
use Rattle.pair_runs.proofs.RunLaws.{run_room, run_state, run_unknown, run_works}
use Rattle.pair_runs.proofs.run.begin.Goals as goal

pub returns-in_default : goal.returns-in_default
returns-in_default c =
    let a = c.args in
    turned_away_lem {ran = ran_of}
    (run_unknown a.lenient a.part a.trace.now (started a.state (two a.left_memory.now a.right_memory.now) a.answers.now a.marks.now)
    c.look_up-looked_up.ensures c.in_default.is)
    c.end_at.ensures

pub returns-then-passes_test : goal.returns-then-passes_test
returns-then-passes_test c =
    let a = c.args in
    ends_by
    (run_works a.lenient a.part a.trace.now (started a.state (two a.left_memory.now a.right_memory.now) a.answers.now a.marks.now)
    c.look_up-looked_up.ensures _ c.in-Some.is
    (both_told c.are_depth-sized.ensures c.is_roomy.ensures c.if-sized-is_roomy.true)
    (sym c.passes_test.ensures ∙ c.if-passes_test.true))
    c.work.ensures

pub returns-else-passes_test : goal.returns-else-passes_test
returns-else-passes_test c =
    let a = c.args in
    turned_away_lem {ran = ran_of}
    (run_state a.lenient a.part a.trace.now (started a.state (two a.left_memory.now a.right_memory.now) a.answers.now a.marks.now)
    c.look_up-looked_up.ensures _ c.in-Some.is
    (both_told c.are_depth-sized.ensures c.is_roomy.ensures c.if-sized-is_roomy.true)
    (sym c.passes_test.ensures ∙ c.if-passes_test.false))
    c.end_at-else-passes_test.ensures

pub returns-else-sized-is_roomy : goal.returns-else-sized-is_roomy
returns-else-sized-is_roomy c =
    let a = c.args in
    turned_away_lem {ran = ran_of}
    (run_room a.lenient a.part a.trace.now (started a.state (two a.left_memory.now a.right_memory.now) a.answers.now a.marks.now)
    c.look_up-looked_up.ensures _ c.in-Some.is
    (both_told c.are_depth-sized.ensures c.is_roomy.ensures c.if-sized-is_roomy.false))
    c.end_at-else-sized-is_roomy.ensures

pub work-requires : goal.work-requires
work-requires c =
    let a = c.args in
    let wide = tested_both_widths _ a.state (sym c.passes_test.ensures ∙ c.if-passes_test.true) in (
      wide.0,
      wide.1,
      room_told a.lenient a.trace.now (started a.state (two a.left_memory.now a.right_memory.now) a.answers.now a.marks.now)
          c.in-Some.known
          (both_told c.are_depth-sized.ensures c.is_roomy.ensures c.if-sized-is_roomy.true),
    )
