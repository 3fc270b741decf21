use Rattle.std.proofs.Common.{sym, ◌∙◌}
use Rattle.rows.proofs.RowLaws.{lent_moved, quiet_moved}
use Rattle.rows.proofs.moving.move_part.Goals as goal

pub returns-then-is_quiet : goal.returns-then-is_quiet
returns-then-is_quiet c =
    let a = c.args in
    quiet_moved a.part a.p a.s a.base a.memory.now (sym c.is_quiet.ensures ∙ c.if-is_quiet.true) c.hold.ensures

pub returns : goal.returns
returns c =
    let a = c.args in
    lent_moved a.part a.p a.s a.base a.memory.now c.take-sampled.ensures
