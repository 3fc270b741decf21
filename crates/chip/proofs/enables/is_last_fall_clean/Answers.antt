use Rattle.std.proofs.Math.Bool.{and-false}
use Rattle.chip.specs.Enables.{last_fall_clean}
use Rattle.chip.proofs.enables.is_last_fall_clean.Goals as goal

pub returns-then-p : goal.returns-then-p
unfolding last_fall_clean
returns-then-p c = simp (c.if-p.true, and-false c.args.s.enables.rt)
