-- Order 4: the list of part states and the row that it is worked as. The row's entries are the list's, up to eight; put back they stand in the list
-- again, and a ninth entry is left as it was.
use Prim.Native.Nat.{ℕ, zero, suc, ◌≤◌, ◌<◌}
use mathlib.Core.List.{List}
use Rattle.std.specs.Prelude.{◌≡◌, get_or, length, replicate}
use Rattle.std.proofs.Math.Path.{refl, ap}
use Rattle.std.proofs.Common.{sym, ◌∙◌, ext_get_or, get_or-set_same, arith}
use Rattle.std.proofs.Math.ListN.{get_or-eq_default, length-replicate, length-set}
use Rattle.std.proofs.Math.Seq.{get_or-set_other}
use Rattle.std.proofs.lemmas.List.{set-get_or}
use borrow.Author.Tests.{le-ltb, lt-ltb}
use Rattle.std.proofs.Math.Decide.{dec_lt, ℕ_discrete}
use Rattle.rows.specs.declared.row.Row.{Row}
use Rattle.rows.specs.MoveLaws.{with_count, with_length, with_other, with_same}
use Rattle.rows.specs.Row.{chosen_of, empty_row, loaded, put_back, row_of, stored_to, with_state}
use Rattle.rows.specs.Step.{state_of}
use Rattle.chip.specs.declared.state.State.{State}
use Rattle.chip.specs.Reset.{powered_up}

-- entry i of a list, a part as at power-up past its end
abbrev pub entry_of : List State → ℕ → State
entry_of states i = get_or states i powered_up

-- so many parts as at power-up, read anywhere
all_powered : (n i : ℕ) → entry_of (replicate n powered_up) i ≡ powered_up
all_powered zero i = refl
all_powered (suc n) zero = refl
all_powered (suc n) (suc i) = all_powered n i

-- the row is filled entry by entry
module _ (states : List State) where
  loaded_count : (n : ℕ) → (loaded states n).count ≡ length states
  unfolding loaded empty_row
  loaded_count zero = refl
  loaded_count (suc n) = with_count (loaded states n) n (entry_of states n) ∙ loaded_count n

  loaded_eight : (n : ℕ) → length (loaded states n).states ≡ 8
  unfolding loaded empty_row
  loaded_eight zero = length-replicate 8 powered_up
  loaded_eight (suc n) = with_length (loaded states n) n (entry_of states n) ∙ loaded_eight n

  loaded_later : (n i : ℕ) → n ≤ i → state_of (loaded states n) i ≡ powered_up
  unfolding loaded empty_row
  loaded_later zero i l = all_powered 8 i
  loaded_later (suc n) i l = with_other (loaded states n) n (entry_of states n) i (λ e. omega (arith, e, l)) ∙ loaded_later n i (omega (arith, l))

  loaded_at : (n i : ℕ) → i < n → i < 8 → state_of (loaded states n) i ≡ entry_of states i
  unfolding loaded
  loaded_at zero i l small = absurd (omega (arith, l))
  loaded_at (suc n) i l small = by (ℕ_discrete i n) (λ before. loaded_at n i before small)
    where
      by : Dec (i ≡ n) → (i < n → state_of (loaded states n) i ≡ entry_of states i)
          → state_of (with_state (loaded states n) n (entry_of states n)) i ≡ entry_of states i
      by (yes e) rest = rw e (with_same (loaded states n) n (entry_of states n) (omega (arith, small, e)) (loaded_eight n))
      by (no d) rest = with_other (loaded states n) n (entry_of states n) i d ∙ rest (omega (arith, l, d))

  -- As many parts as entries, in eight places.
  pub row_count : (row_of states).count ≡ length states
  row_count = loaded_count (length states)

  pub row_eight : length (row_of states).states ≡ 8
  row_eight = loaded_eight (length states)

  -- Part i is entry i of the list, for the first eight,
  pub row_at : (i : ℕ) → i < length states → i < 8 → state_of (row_of states) i ≡ entry_of states i
  row_at = loaded_at (length states)

  -- and past the list's end it is as at power-up.
  pub row_past : (i : ℕ) → length states ≤ i → state_of (row_of states) i ≡ powered_up
  row_past = loaded_later (length states)

  -- both at once
  pub row_entry : (i : ℕ) → i < 8 → state_of (row_of states) i ≡ entry_of states i
  row_entry i small = by (dec_lt i (length states))
    where
      by : Dec (i < length states) → state_of (row_of states) i ≡ entry_of states i
      by (yes l) = row_at i l small
      by (no d) =
          let past : length states ≤ i = omega (arith, d) in
          row_past i past ∙ sym (get_or-eq_default states powered_up past)

-- rows that agree in their number and at every place are the same
pub same_row : (a b : Row) → a.count ≡ b.count → length a.states ≡ 8 → length b.states ≡ 8
    → ((i : ℕ) → i < 8 → state_of a i ≡ state_of b i) → a ≡ b
same_row a b count eight eight' each =
    let states = ext_get_or powered_up a.states b.states (eight ∙ sym eight') (λ i l. each i (omega (arith, l, eight))) in
    λ i. record { count = count i; states = states i }

-- A list of parts as at power-up is worked as the row of so many.
pub row_powered : (n : ℕ) → row_of (replicate n powered_up) ≡ empty_row n
unfolding empty_row
row_powered n =
    let states = replicate n powered_up in
    same_row (row_of states) (empty_row n) (row_count states ∙ length-replicate n powered_up) (row_eight states) (length-replicate 8 powered_up)
    (λ i l. row_entry states i l ∙ all_powered n i ∙ sym (all_powered 8 i))

-- the row is put back entry by entry
module _ (row : Row) (states : List State) where
  pub stored_length : (n : ℕ) → length (stored_to row states n) ≡ length states
  unfolding stored_to
  stored_length zero = refl
  stored_length (suc n) = length-set (stored_to row states n) n _ ∙ stored_length n

  stored_later : (n i : ℕ) → n ≤ i → entry_of (stored_to row states n) i ≡ entry_of states i
  unfolding stored_to
  stored_later zero i l = refl
  stored_later (suc n) i l = get_or-set_other (stored_to row states n) n i _ powered_up (λ e. omega (arith, e, l)) ∙ stored_later n i (omega (arith, l))

  -- a ninth entry is stored as it was
  ninth_kept : (n : ℕ) → 8 ≤ n → stored_to row states (suc n) ≡ stored_to row states n
  unfolding stored_to chosen_of
  ninth_kept n l = rw (le-ltb n 8 l) (set-get_or (stored_to row states n) n powered_up)

  stored_ninth : (n i : ℕ) → 8 ≤ i → entry_of (stored_to row states n) i ≡ entry_of states i
  unfolding stored_to
  stored_ninth zero i l = refl
  stored_ninth (suc n) i l = by (ℕ_discrete i n) (stored_ninth n i l)
    where
      by : Dec (i ≡ n) → entry_of (stored_to row states n) i ≡ entry_of states i → entry_of (stored_to row states (suc n)) i ≡ entry_of states i
      by (yes e) rest = ap (λ (left : List State). entry_of left i) (ninth_kept n (omega (arith, l, e))) ∙ rest
      by (no d) rest = get_or-set_other (stored_to row states n) n i _ powered_up d ∙ rest

  stored_at : (n i : ℕ) → i < n → n ≤ length states → i < 8 → entry_of (stored_to row states n) i ≡ state_of row i
  unfolding stored_to chosen_of
  stored_at zero i l some small = absurd (omega (arith, l))
  stored_at (suc n) i l some small = by (ℕ_discrete i n) (λ before. stored_at n i before (omega (arith, some)) small)
    where
      by : Dec (i ≡ n) → (i < n → entry_of (stored_to row states n) i ≡ state_of row i) → entry_of (stored_to row states (suc n)) i ≡ state_of row i
      by (yes e) rest =
          rw (e, lt-ltb n 8 (omega (arith, small, e)))
          (get_or-set_same (stored_to row states n) n (state_of row n) powered_up (omega (arith, some, stored_length n)))
      by (no d) rest = get_or-set_other (stored_to row states n) n i _ powered_up d ∙ rest (omega (arith, l, d))

  -- As many entries as before,
  pub back_length : length (put_back row states) ≡ length states
  back_length = stored_length (length states)

  -- the first eight of them the row's,
  pub back_at : (i : ℕ) → i < length states → i < 8 → entry_of (put_back row states) i ≡ state_of row i
  back_at i l = stored_at (length states) i l (omega arith)

  -- and a ninth as it was.
  pub back_ninth : (i : ℕ) → 8 ≤ i → entry_of (put_back row states) i ≡ entry_of states i
  back_ninth = stored_ninth (length states)

  -- Worked again, the list is that row, where the row has eight places, so many parts, and past them none but as at power-up.
  pub row_back : row.count ≡ length states → length states ≤ 8 → length row.states ≡ 8
      → ((i : ℕ) → row.count ≤ i → i < 8 → state_of row i ≡ powered_up) → row_of (put_back row states) ≡ row
  row_back count few eight rest =
      let after = put_back row states in
      same_row (row_of after) row (row_count after ∙ back_length ∙ sym count) (row_eight after) eight (λ i l. by i l (dec_lt i (length states)))
    where
      by : (i : ℕ) → i < 8 → Dec (i < length states) → state_of (row_of (put_back row states)) i ≡ state_of row i
      by i small (yes l) = row_entry (put_back row states) i small ∙ back_at i l small
      by i small (no d) = row_past (put_back row states) i (omega (arith, d, back_length)) ∙ sym (rest i (omega (arith, d, count)) small)

-- A list whose own row is put back is as it was, whatever its length.
pub back_same : (states : List State) → put_back (row_of states) states ≡ states
back_same states =
    ext_get_or powered_up (put_back (row_of states) states) states (back_length (row_of states) states)
    (λ i l. by i (omega (arith, l, back_length (row_of states) states)) (dec_lt i 8))
  where
    by : (i : ℕ) → i < length states → Dec (i < 8) → entry_of (put_back (row_of states) states) i ≡ entry_of states i
    by i l (yes small) = back_at (row_of states) states i l small ∙ row_at states i l small
    by i l (no d) = back_ninth (row_of states) states i (omega (arith, d))
