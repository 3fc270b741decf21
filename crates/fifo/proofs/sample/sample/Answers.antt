use Rattle.std.proofs.Common.{sym, ◌∙◌}
use Rattle.chip.specs.Widths.{tested_widths}
use Rattle.fifo.proofs.Laws.{gives_refusal, sample_length, sample_state, sample_steps, sample_unknown, samples_by}
use Rattle.fifo.proofs.sample.sample.Goals as goal

pub returns-in_default : goal.returns-in_default
returns-in_default c =
    let a = c.args in
    samples_by (sample_unknown a.part a.«record» a.state a.memory.now c.look_up-looked_up.ensures c.in_default.is)
    (gives_refusal c.turn_away.ensures)

pub step-requires : goal.step-requires
step-requires c = tested_widths _ c.args.state (sym c.passes_test.ensures ∙ c.if-passes_test.true)

pub returns-then-passes_test : goal.returns-then-passes_test
returns-then-passes_test c =
    let a = c.args in
    samples_by
    (sample_steps a.part a.«record» a.state a.memory.now c.look_up-looked_up.ensures _ c.in-Some.is
    (sym c.is_depth.ensures ∙ c.if-is_depth.true) (sym c.passes_test.ensures ∙ c.if-passes_test.true))
    c.step.ensures.gives

pub returns-else-passes_test : goal.returns-else-passes_test
returns-else-passes_test c =
    let a = c.args in
    samples_by
    (sample_state a.part a.«record» a.state a.memory.now c.look_up-looked_up.ensures _ c.in-Some.is
    (sym c.is_depth.ensures ∙ c.if-is_depth.true) (sym c.passes_test.ensures ∙ c.if-passes_test.false))
    (gives_refusal c.turn_away-else-passes_test.ensures)

pub returns-else-is_depth : goal.returns-else-is_depth
returns-else-is_depth c =
    let a = c.args in
    samples_by
    (sample_length a.part a.«record» a.state a.memory.now c.look_up-looked_up.ensures _ c.in-Some.is
    (sym c.is_depth.ensures ∙ c.if-is_depth.false))
    (gives_refusal c.turn_away-else-is_depth.ensures)
