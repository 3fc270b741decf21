use Rattle.std.proofs.Common.{sym, ap, ◌∙◌}
use Rattle.refusal_kinds.specs.NumberLaws.{number_some}
use Rattle.refusal_kinds.specs.Numbers.{number_of}
use Rattle.fifo.proofs.Laws.{gives_refusal, stepped_refuses, stepped_takes, steps_by}
use Rattle.fifo.proofs.sample.take_or_turn_away.Goals as goal

pub returns-in-None : goal.returns-in-None
returns-in-None c =
    let a = c.args in
    steps_by
    (stepped_takes a.part a.«record» a.state a.memory.now c.refuse_record.ensures c.decode.ensures (ap number_of c.in-None.is))
    c.take.ensures

pub returns-in-Some : goal.returns-in-Some
returns-in-Some c =
    let a = c.args in
    steps_by
    (stepped_refuses a.part a.«record» a.state a.memory.now (sym (ap number_of c.in-Some.is) ∙ c.refuse_record.ensures) (number_some c.in-Some.refusal))
    (gives_refusal c.turn_away.ensures)
