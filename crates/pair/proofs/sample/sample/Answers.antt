use Rattle.halves.specs.StateLaws.{tested_both_widths}
use Rattle.halves.specs.Two.{two}
use Rattle.pair.proofs.Laws.{gives_refusal, passed, sample_length, sample_state, sample_steps, sample_unknown, samples_by}
use Rattle.pair.proofs.sample.sample.Goals as goal

pub returns-in_default : goal.returns-in_default
returns-in_default c =
    let a = c.args in
    samples_by
    (sample_unknown a.part (two a.left a.right) a.state (two a.left_memory.now a.right_memory.now)
    c.look_up-looked_up.ensures c.in_default.is)
    (gives_refusal c.turn_away.ensures)

pub returns-then-not-are_depth : goal.returns-then-not-are_depth
returns-then-not-are_depth c =
    let a = c.args in
    samples_by
    (sample_length a.part (two a.left a.right) a.state (two a.left_memory.now a.right_memory.now)
    c.look_up-looked_up.ensures _ c.in-Some.is c.are_depth.ensures c.if-not-are_depth.true)
    (gives_refusal c.turn_away-then-not-are_depth.ensures)

pub returns-then-not-passes_test : goal.returns-then-not-passes_test
returns-then-not-passes_test c =
    let a = c.args in
    samples_by
    (sample_state a.part (two a.left a.right) a.state (two a.left_memory.now a.right_memory.now)
    c.look_up-looked_up.ensures _ c.in-Some.is c.are_depth.ensures c.if-not-are_depth.false
    c.passes_test.ensures c.if-not-passes_test.true)
    (gives_refusal c.turn_away-then-not-passes_test.ensures)

pub step-requires : goal.step-requires
step-requires c = tested_both_widths _ c.args.state (passed c.passes_test.ensures c.if-not-passes_test.false)

pub returns : goal.returns
returns c =
    let a = c.args in
    samples_by
    (sample_steps a.part (two a.left a.right) a.state (two a.left_memory.now a.right_memory.now)
    c.look_up-looked_up.ensures _ c.in-Some.is c.are_depth.ensures c.if-not-are_depth.false
    c.passes_test.ensures c.if-not-passes_test.false)
    c.step.ensures.gives
