use Rattle.buffers.proofs.Laws.{judged_length, judged_state, judged_unknown}
use Rattle.buffers.proofs.verdict.judge.Goals as goal

pub returns-in_default : goal.returns-in_default
returns-in_default c =
    let a = c.args in
    judged_unknown a.part a.«record».now a.state.now a.memory a.answer c.look_up-looked_up.ensures c.in_default.is

pub returns-then-is_roomy : goal.returns-then-is_roomy
returns-then-is_roomy c =
    let a = c.args in
    judged_state a.part a.«record».now a.state.now a.memory a.answer c.look_up-looked_up.ensures c.in-Some.is c.is_roomy.ensures
    c.if-is_roomy.true c.judge_state.ensures

pub returns-else-is_roomy : goal.returns-else-is_roomy
returns-else-is_roomy c =
    let a = c.args in
    judged_length a.part a.«record».now a.state.now a.memory a.answer c.look_up-looked_up.ensures c.in-Some.is c.is_roomy.ensures
    c.if-is_roomy.false
