use Rattle.std.proofs.Common.{◌≡◌, ℕ, ◌+◌, ◌<◌, List, length, get_or, refl, add-one, arith}
use Rattle.chip.specs.declared.state.State.{State}
use Rattle.rows.specs.declared.row.Row.{Row}
use Rattle.rows.specs.Row.{loaded, with_state}
use Rattle.rows.specs.StateLaws.{same_at}
use Rattle.chip.specs.Reset.{powered_up}
use Rattle.chain.proofs.load.Goals as goal

-- one entry more
turned : (states : List State) (i : ℕ) (other : State) → i < length states → {row r : Row} → row ≡ loaded states i
    → r ≡ with_state row i (get_or states i other) → r ≡ loaded states (i + 1)
unfolding loaded
turned states i other l e f = rw (add-one i) (rw (f, e, same_at states i other powered_up l) refl)

pub loop-i-init : goal.loop-i-init
unfolding loaded
loop-i-init c = c.power_up-row.ensures

pub loop-i-preserved : goal.loop-i-preserved
loop-i-preserved c = turned c.args.states.now _ _ (omega arith) c.loop-i.invariant c.with_state-row.ensures
