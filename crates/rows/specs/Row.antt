-- Order 4: the list of part states, one entry a part, as it is worked: a row of up to eight by value, filled from the list and put back.
use Rattle.std.specs.Prelude.{ℕ, zero, suc, cond, List, ◌≡◌, ltb, get_or, length, replicate, set}
use Rattle.chip.specs.declared.state.State.{State}
use Rattle.chip.specs.Reset.{powered_up}
use Rattle.rows.specs.declared.row.Row.{Row}

-- so many parts, each as at power-up
unfoldable pub empty_row : ℕ → Row
empty_row count = record { count = count; states = replicate 8 powered_up }

-- a ninth state has no place
unfoldable pub with_state : Row → ℕ → State → Row
with_state row i s = cond (ltb i 8) (record { count = row.count; states = set row.states i s }) row

unfoldable pub chosen_of : Row → ℕ → State → State
chosen_of row i s = cond (ltb i 8) (get_or row.states i powered_up) s

-- a row with the first i entries of a list
unfoldable pub loaded : List State → ℕ → Row
loaded states zero = empty_row (length states)
loaded states (suc i) = with_state (loaded states i) i (get_or states i powered_up)

abbrev pub row_of : List State → Row
row_of states = loaded states (length states)

-- a list with its first i entries put back
unfoldable pub stored_to : Row → List State → ℕ → List State
stored_to row states zero = states
stored_to row states (suc i) = set (stored_to row states i) i (chosen_of row i (get_or (stored_to row states i) i powered_up))

abbrev pub put_back : Row → List State → List State
put_back row states = stored_to row states (length states)

abbrev pub PoweredUp : ℕ → Row → Type 0
PoweredUp count r = r ≡ empty_row count
