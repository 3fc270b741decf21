-- A state of a row, whatever stands for those past its end.
use Rattle.std.specs.Prelude.{ℕ, zero, suc, ◌<◌, List, [], ◌∷◌, ◌≡◌, refl, get_or, length}
use Rattle.std.proofs.Common.{sym, subst, le_of_suc-le-suc, not-suc-le-zero}
use Rattle.chip.specs.declared.state.State.{State}
use Rattle.chip.specs.Reset.{powered_up}
use Rattle.rows.specs.declared.row.Row.{Row}
use Rattle.rows.specs.Step.{state_of}

pub same_at {ℓ} : {A : Type ℓ} (xs : List A) (i : ℕ) (d e : A) → i < length xs → get_or xs i d ≡ get_or xs i e
same_at [] i d e h = absurd (not-suc-le-zero h)
same_at (x ∷ xs) zero d e h = refl
same_at (x ∷ xs) (suc i) d e h = same_at xs i d e (le_of_suc-le-suc h)

-- as the code reads it
pub state_at : (row : Row) → length row.states ≡ 8 → (i : ℕ) (other : State) → i < 8 → get_or row.states i other ≡ state_of row i
state_at row eight i other l = same_at row.states i other powered_up (subst (λ (n : ℕ). i < n) (sym eight) l)
