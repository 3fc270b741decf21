use Rattle.chip.specs.Widths.{tested_widths}
use Rattle.spelling.specs.Spelling.{state_in}
use Rattle.call_work.proofs.Laws.{store_in_memory, takes}
use Rattle.call_work.proofs.work.take.Goals as goal

pub advance-advanced-requires : goal.advance-advanced-requires
advance-advanced-requires c = rw c.read_state-s.ensures (tested_widths c.args.part (state_in c.args.state.now) c.requires.passed)

pub put_away-requires : goal.put_away-requires
put_away-requires c =
    let a = c.args in
    store_in_memory a.part a.word a.state.now a.memory.now a.answer.now c.read_state-s.ensures c.decode.ensures
    c.place-place.ensures c.fetch-fetched.ensures c.advance-advanced.ensures c.requires.lengths.memory

pub returns : goal.returns
returns c =
    let a = c.args in
    takes a.part a.word a.state.now a.memory.now a.answer.now c.read_state-s.ensures c.decode.ensures
    c.place-place.ensures c.fetch-fetched.ensures c.advance-advanced.ensures
    c.write_state.ensures c.put_away.ensures c.put_answer.ensures
