use Rattle.std.proofs.Common.{rules}
use Rattle.call_work.proofs.Laws.{remembered_held}
use Rattle.call_work.proofs.work.hold.Goals as goal

pub returns-clause-spelled : goal.returns-clause-spelled
returns-clause-spelled c =
    let a = c.args in
    remembered_held a.word a.state.now c.requires.state_len (search rules) c.requires.state_value c.decode-p.ensures c.read_state-s.ensures
    c.enables_after-enables.ensures c.put_remembered.ensures
