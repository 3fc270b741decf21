use Rattle.std.proofs.Common.{refl, sym, ap, ◌∙◌}
use Rattle.refusal_kinds.specs.NumberLaws.{number_some}
use Rattle.refusal_kinds.specs.Numbers.{number_of}
use Rattle.call_work.proofs.Laws.{works_refused, works_taken}
use Rattle.call_work.proofs.work.take_or_turn_away.Goals as goal

pub returns-in-Some : goal.returns-in-Some
returns-in-Some c =
    let a = c.args in
    works_refused a.part a.word a.state.now a.memory.now a.answer.now (sym (ap number_of c.in-Some.is) ∙ c.refuse.ensures) (number_some c.in-Some.refusal)

pub returns : goal.returns
returns c =
    let a = c.args in
    works_taken a.part a.word a.state.now a.memory.now a.answer.now (sym (ap number_of c.in_default.is) ∙ c.refuse.ensures) refl c.take.ensures
