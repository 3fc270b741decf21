use Rattle.handed_c.proofs.HandedLaws.{lenient_none, lenient_runs}
use Rattle.handed_c.proofs.handed.fifo_run_lenient_from.Goals as goal

pub returns-then-is_sound : goal.returns-then-is_sound
returns-then-is_sound c =
    let a = c.args in
    lenient_runs a.part a.trace.now a.state.now a.memory.now a.answers.now a.ended.now c.is_sound.ensures
    c.if-is_sound.true c.read_state-from.ensures c.hand_back.ensures c.wide.ensures a.marks.now c.run_lenient-ran.ensures

pub returns-else-is_sound : goal.returns-else-is_sound
returns-else-is_sound c =
    let a = c.args in
    lenient_none a.part a.trace.now a.state.now a.memory.now a.answers.now a.ended.now c.is_sound.ensures a.marks.now c.if-is_sound.false
