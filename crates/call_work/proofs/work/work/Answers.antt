use Rattle.call_work.proofs.Laws.{works_held}
use Rattle.call_work.proofs.work.work.Goals as goal

pub returns-then-is_still : goal.returns-then-is_still
returns-then-is_still c =
    let a = c.args in
    works_held a.part a.word a.state.now a.memory.now a.answer.now c.is_still.ensures c.if-is_still.true c.hold.ensures.spelled c.hold.ensures.answered
