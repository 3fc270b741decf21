use Rattle.std.proofs.Common.{refl, sym, ap, ◌∙◌}
use Rattle.pair.specs.StillLaws.{still_stepped_both}
use Rattle.halves.specs.Two.{two}
use Rattle.refusal_kinds.specs.NumberLaws.{number_some}
use Rattle.refusal_kinds.specs.Numbers.{number_of}
use Rattle.pair.proofs.Laws.{gives_both, gives_refusal, stepped_refuses, stepped_takes, steps_by}
use Rattle.pair.proofs.sample.step.Goals as goal

pub returns-then-are_still : goal.returns-then-are_still
returns-then-are_still c =
    let a = c.args in
    steps_by
    (still_stepped_both a.part (two a.left a.right) a.state (sym c.are_still.ensures ∙ c.if-are_still.true)
    (two a.left_memory.now a.right_memory.now))
    (record { result = c.hold.ensures; words = refl })

pub returns-in-Some : goal.returns-in-Some
returns-in-Some c =
    let a = c.args in
    steps_by
    (stepped_refuses a.part (two a.left a.right) a.state (two a.left_memory.now a.right_memory.now)
    c.try_both-trials.ensures (sym (ap number_of c.in-Some.is) ∙ c.refusal.ensures) (number_some c.in-Some.refusal))
    (gives_refusal c.turn_away.ensures)

pub returns : goal.returns
returns c =
    let a = c.args in
    steps_by
    (stepped_takes a.part (two a.left a.right) a.state (two a.left_memory.now a.right_memory.now)
    c.try_both-trials.ensures c.refusal.ensures (ap number_of c.in_default.is))
    (gives_both c.join.ensures c.give-left_given.ensures c.give-right_given.ensures)
