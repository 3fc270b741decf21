use Rattle.std.proofs.Common.{◌-◌, ◌∷◌, []}
use Rattle.halves.proofs.TriedLaws.{Going}
use Rattle.halves.proofs.tried.try_each.Given as goal

abbrev pub invariant-loop-side : goal.invariant-loop-side
invariant-loop-side l = Going l.part (l.fn.left ∷ l.fn.right ∷ []) l.both l.side

abbrev pub decreases-loop-side : goal.decreases-loop-side
decreases-loop-side l = 2 - l.side
