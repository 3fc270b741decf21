use Rattle.buffers.proofs.Laws.{state_fails, state_passes}
use Rattle.buffers.proofs.verdict.judge_state.Goals as goal

pub returns-then-spelled-passed : goal.returns-then-spelled-passed
returns-then-spelled-passed c =
    let a = c.args in
    state_passes a.part a.«record».now a.state.now c.spells_state-spelled.ensures c.read_state.ensures c.passes_test-passed.ensures
    c.if-spelled-passed.true c.judge_record.ensures

pub returns-else-spelled-passed : goal.returns-else-spelled-passed
returns-else-spelled-passed c =
    let a = c.args in
    state_fails a.part a.«record».now a.state.now c.spells_state-spelled.ensures c.read_state.ensures c.passes_test-passed.ensures
    c.if-spelled-passed.false
