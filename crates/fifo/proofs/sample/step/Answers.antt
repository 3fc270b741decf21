use Rattle.std.proofs.Common.{refl, sym, ◌∙◌}
use Rattle.fifo.specs.StillLaws.{still_stepped}
use Rattle.fifo.proofs.Laws.{steps_by}
use Rattle.fifo.proofs.sample.step.Goals as goal

pub returns-then-is_still : goal.returns-then-is_still
returns-then-is_still c =
    let a = c.args in
    steps_by
    (still_stepped a.part a.«record» a.state a.memory.now (sym c.is_still.ensures ∙ c.if-is_still.true))
    (record { result = simp (c.hold.ensures, c.decode.ensures); words = refl })
