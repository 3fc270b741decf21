-- Order 4: what moving the parts one after the other leaves as it was, and that it keeps widths and lengths.
use Prim.Native.Nat.{ℕ, zero, suc, ◌+◌, ◌*◌, ◌-◌, ◌≤◌, ◌<◌}
use Rattle.std.specs.Prelude.{Bool, true, false, cond, List, [], ◌∷◌, ◌≢◌, ◌≡◌, ltb, drop, get_or, set, take}
use Rattle.std.proofs.Common.{⊎_elim, ◌∙◌, length-set, take-append-drop, get_or-set_other, get_or-set_same, lt-ltb, eq-or-lt_of_le, le_of_suc-le-suc, not-suc-le-zero, arith}
use Rattle.std.proofs.Math.Path.{refl, sym, ap}
use Rattle.std.proofs.Math.ListN.{length, length-append}
use Rattle.chip.specs.declared.state.State.{State}
use Rattle.chip.specs.Advance.{advanced}
use Rattle.chip.specs.Reset.{powered_up}
use Rattle.chip.specs.State.{widths}
use Rattle.chip.specs.Widths.{widths_stay}
use Rattle.counts.specs.declared.part.Part.{Part}
use Rattle.counts.specs.Part.{depth_of}
use Rattle.fifo.specs.Sample.{fetched_for, taken}
use Rattle.fifo.specs.SampleLaws.{stored_length}
use Rattle.links.specs.declared.record.Links.{Links}
use Rattle.pins.specs.declared.record.Pins.{Pins}
use Rattle.rows.specs.declared.row.Row.{Row}
use Rattle.rows.specs.Row.{with_state}
use Rattle.rows.specs.Step.{moved_part, moved_to, state_of, wired_to}

-- an entry of a list with another one set is that one or as it was
set_either : (P : State → Type 0) (xs : List State) (i j : ℕ) (s other : State) → P s → P (get_or xs j other) → P (get_or (set xs i s) j other)
set_either P [] i j s other ps pj = pj
set_either P (x ∷ xs) zero zero s other ps pj = ps
set_either P (x ∷ xs) zero (suc j) s other ps pj = pj
set_either P (x ∷ xs) (suc i) zero s other ps pj = pj
set_either P (x ∷ xs) (suc i) (suc j) s other ps pj = set_either P xs i j s other ps pj

module _ (row : Row) (i : ℕ) (s : State) where
  abbrev set_to : Bool → Row
  set_to there = cond there (record { count = row.count; states = set row.states i s }) row

  count_by : (there : Bool) → (set_to there).count ≡ row.count
  count_by true = refl
  count_by false = refl

  pub with_count : (with_state row i s).count ≡ row.count
  unfolding with_state
  with_count = count_by (ltb i 8)

  length_by : (there : Bool) → length (set_to there).states ≡ length row.states
  length_by true = length-set row.states i s
  length_by false = refl

  pub with_length : length (with_state row i s).states ≡ length row.states
  unfolding with_state
  with_length = length_by (ltb i 8)

  either_by : (P : State → Type 0) (j : ℕ) (there : Bool) → P s → P (state_of row j) → P (state_of (set_to there) j)
  either_by P j true ps pj = set_either P row.states i j s powered_up ps pj
  either_by P j false ps pj = pj

  pub with_either : (P : State → Type 0) (j : ℕ) → P s → P (state_of row j) → P (state_of (with_state row i s) j)
  unfolding with_state
  with_either P j = either_by P j (ltb i 8)

  other_by : (j : ℕ) → j ≢ i → (there : Bool) → state_of (set_to there) j ≡ state_of row j
  other_by j n true = get_or-set_other row.states i j s powered_up n
  other_by j n false = refl

  pub with_other : (j : ℕ) → j ≢ i → state_of (with_state row i s) j ≡ state_of row j
  unfolding with_state
  with_other j n = other_by j n (ltb i 8)

  module _ (below : i < 8) where
    pub with_set : with_state row i s ≡ record { count = row.count; states = set row.states i s }
    unfolding with_state
    with_set = simp (lt-ltb i 8 below)

    pub with_same : length row.states ≡ 8 → state_of (with_state row i s) i ≡ s
    with_same eight = rw with_set (get_or-set_same row.states i s powered_up (omega (arith, below, eight)))

module _ (part : Part) (p : Pins) (s : State) (base : ℕ) (memory : List ℕ) where
  pub part_widths : widths part s ≡ true → widths part (moved_part part p s base memory).state ≡ true
  unfolding moved_part taken
  part_widths = widths_stay part p (fetched_for part s (drop base memory)) s

  pub part_length : length (moved_part part p s base memory).memory ≡ length memory
  unfolding moved_part taken
  part_length =
      length-append (take base memory) _
      ∙ ap (λ (n : ℕ). length (take base memory) + n) (stored_length (advanced part p (fetched_for part s (drop base memory)) s).store (drop base memory))
      ∙ sym (length-append (take base memory) (drop base memory))
      ∙ ap length (take-append-drop base memory)

module _ (part : Part) (x : Links) (row : Row) (memory : List ℕ) where
  pub moved_count : (n : ℕ) → (moved_to part x row memory n).row.count ≡ row.count
  unfolding moved_to
  moved_count zero = refl
  moved_count (suc n) = with_count (moved_to part x row memory n).row n _ ∙ moved_count n

  pub moved_eight : (n : ℕ) → length (moved_to part x row memory n).row.states ≡ length row.states
  unfolding moved_to
  moved_eight zero = refl
  moved_eight (suc n) = with_length (moved_to part x row memory n).row n _ ∙ moved_eight n

  -- a part that has not had its turn is as it was
  pub moved_later : (n j : ℕ) → n ≤ j → state_of (moved_to part x row memory n).row j ≡ state_of row j
  unfolding moved_to
  moved_later zero j l = refl
  moved_later (suc n) j l = with_other (moved_to part x row memory n).row n _ j (λ e. omega (arith, e, l)) ∙ moved_later n j (omega (arith, l))

  pub moved_length : (n : ℕ) → length (moved_to part x row memory n).memory ≡ length memory
  unfolding moved_to
  moved_length zero = refl
  moved_length (suc n) =
      part_length part _ (state_of row n) (n * depth_of part) (moved_to part x row memory n).memory ∙ moved_length n

  pub moved_widths : (n j : ℕ) → ((k : ℕ) → k < n → widths part (state_of row k) ≡ true) → widths part (state_of row j) ≡ true
      → widths part (state_of (moved_to part x row memory n).row j) ≡ true
  unfolding moved_to
  moved_widths zero j all own = own
  moved_widths (suc n) j all own =
      with_either (moved_to part x row memory n).row n _ (λ s. widths part s ≡ true) j
      (part_widths part _ (state_of row n) (n * depth_of part) (moved_to part x row memory n).memory (all n (omega arith)))
      (moved_widths n j (λ k l. all k (omega (arith, l))) own)

-- a part that has had its turn is what the single part makes of the pins that the row before the sample gives it
pub moved_state : (part : Part) (x : Links) (row : Row) (memory : List ℕ) → length row.states ≡ 8 → (n i : ℕ) → n ≤ 8 → i < n
    → state_of (moved_to part x row memory n).row i
    ≡ (moved_part part (wired_to part x row i) (state_of row i) (i * depth_of part) (moved_to part x row memory i).memory).state
unfolding moved_to
moved_state part x row memory eight zero i most l = absurd (not-suc-le-zero l)
moved_state part x row memory eight (suc n) i most l =
    ⊎_elim
    (λ same. rw same (with_same (moved_to part x row memory n).row n _ (omega (arith, most)) (moved_eight part x row memory n ∙ eight)))
    (λ below. with_other (moved_to part x row memory n).row n _ i (λ e. omega (arith, e, below)) ∙ moved_state part x row memory eight n i (omega (arith, most)) below)
    (eq-or-lt_of_le (le_of_suc-le-suc l))
