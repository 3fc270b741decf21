use Rattle.std.proofs.Common.{◌≡◌, ℕ, ◌+◌, ◌<◌, List, length, get_or, set, refl, add-one, arith}
use Rattle.chip.specs.declared.state.State.{State}
use Rattle.rows.specs.declared.row.Row.{Row}
use Rattle.rows.specs.Row.{chosen_of, stored_to}
use Rattle.rows.specs.StateLaws.{same_at}
use Rattle.chip.specs.Reset.{powered_up}
use Rattle.chain.proofs.store.Goals as goal

-- one entry more
turned : (row : Row) (states left : List State) (i : ℕ) (other : State) → i < length left → left ≡ stored_to row states i → {s : State}
    → s ≡ chosen_of row i (get_or left i other) → set left i s ≡ stored_to row states (i + 1)
unfolding stored_to
turned row states left i other l e f = rw (add-one i) (rw (f, same_at left i other powered_up l, e) refl)

pub loop-i-init : goal.loop-i-init
unfolding stored_to
loop-i-init c = refl

pub loop-i-preserved : goal.loop-i-preserved
loop-i-preserved c = turned c.args.row c.args.states.now c.loop-i.states _ _ (omega arith) c.loop-i.invariant c.chosen.ensures
