-- Order 4: what comes of a sample's number, and that a sample keeps what a run relies on.
use Prim.Native.Nat.{ℕ, zero, suc, ◌*◌, ◌≤◌, ◌<◌}
use Rattle.std.specs.Prelude.{Bool, not, cond, ◌&&◌, ◌||◌, List, ◌⊎◌, ◌≢◌, ◌≡◌, length, ltb}
use Rattle.std.proofs.Math.Bool.{true, false, and-eq-true_iff, and-false}
use Rattle.std.proofs.Common.{true≢false, sym, ◌∙◌, eq-eqb, eqb-true, le-leb, leb-true, ne_eqb, eq-or-lt_of_le, le_of_suc-le-suc, not-suc-le-zero, arith}
use Rattle.std.proofs.Math.Logic.{inl, inr, ⊎_elim}
use Rattle.std.proofs.Math.Path.{refl, subst}
use Rattle.std.proofs.Math.Dec.{eqb}
use Rattle.chip.specs.declared.state.State.{State}
use Rattle.chip.specs.ResetLaws.{is_fwft}
use Rattle.chip.specs.State.{passes, widths}
use Rattle.counts.specs.declared.part.Part.{Part}
use Rattle.counts.specs.Both.{both}
use Rattle.counts.specs.Either.{either}
use Rattle.counts.specs.Part.{depth_of}
use Rattle.fifo.specs.NameLaws.{refusal_numbered}
use Rattle.fifo.specs.Sample.{number_of}
use Rattle.links.specs.declared.record.Links.{Links}
use Rattle.links.specs.Record.{plain}
use Rattle.links.specs.Refuse.{fourteen, least, whole_refusal}
use Rattle.links.specs.RefuseLaws.{five_comes, least_told}
use Rattle.refusal_kinds.specs.Numbers as refusals
use Rattle.refusals.specs.Refuse.{refusal_of}
use Rattle.rows.specs.declared.row.Row.{Row}
use Rattle.rows.specs.Relied.{fits, widths_to}
use Rattle.rows.specs.MoveLaws.{moved_count, moved_eight, moved_length, moved_widths}
use Rattle.rows.specs.Step.{After, Moving, all_to, chain_refusal, chain_stepped, judged_to, moved_to, passes_part, passes_to, started_to, state_of, took, turned_away, wired_to}

-- each of the first n passes the test, and nothing else is asked
pub all_at : (test : State → Bool) (row : Row) (n i : ℕ) → all_to test row n ≡ true → i < n → test (state_of row i) ≡ true
unfolding all_to
all_at test row zero i e l = absurd (not-suc-le-zero l)
all_at test row (suc n) i e l =
    let here = both (all_to test row n) (test (state_of row n)) e in
    ⊎_elim (λ z. subst (λ (k : ℕ). test (state_of row k) ≡ true) (sym z) here.1) (λ z. all_at test row n i here.0 z)
    (eq-or-lt_of_le (le_of_suc-le-suc l))

pub all_by : (test : State → Bool) (row : Row) (n : ℕ) → ((i : ℕ) → i < n → test (state_of row i) ≡ true) → all_to test row n ≡ true
unfolding all_to
all_by test row zero all = refl
all_by test row (suc n) all =
    (and-eq-true_iff (all_to test row n) (test (state_of row n))).1 (all_by test row n (λ i l. all i (omega (arith, l))), all n (omega arith))

pub record Fitting (part : Part) (words : ℕ) (row : Row) : Type 0 where
  pub most : row.count ≤ 8
  pub eight : length row.states ≡ 8
  pub enough : row.count * depth_of part ≤ words
  pub wide : widths_to part row row.count ≡ true

pub fits_told : (part : Part) (words : ℕ) (row : Row) → fits part words row ≡ true → Fitting part words row
unfolding fits
fits_told part words row e =
    let all = both _ _ e in
    let three = both _ _ all.0 in
    let two = both _ _ three.0 in
    record { most = leb-true _ _ two.0; eight = eqb-true _ _ two.1; enough = leb-true _ _ three.1; wide = all.1 }

pub told_fits : (part : Part) (words : ℕ) (row : Row) → Fitting part words row → fits part words row ≡ true
unfolding fits
told_fits part words row f = simp (le-leb _ _ f.most, eq-eqb _ _ f.eight, le-leb _ _ f.enough, f.wide)

module _ (part : Part) (x : Links) (row : Row) (memory : List ℕ) where
  abbrev moved : Moving
  moved = moved_to part x row memory row.count

  pub step_taken : chain_refusal part x row ≡ 0 → chain_stepped part x row memory ≡ took part x.pins moved
  unfolding chain_stepped
  step_taken none = simp (eq-eqb _ _ none)

  pub step_still : chain_refusal part x row ≢ 0 → chain_stepped part x row memory ≡ turned_away (chain_refusal part x row) row memory
  unfolding chain_stepped
  step_still some = simp (ne_eqb _ _ some)

  -- what holds of a sample taken and of one refused
  step_by : (P : After → Type 0) → (chain_refusal part x row ≡ 0 → P (took part x.pins moved)) → P (turned_away (chain_refusal part x row) row memory)
      → P (chain_stepped part x row memory)
  unfolding chain_stepped
  step_by P f g = by (eqb (chain_refusal part x row) 0) refl
    where
      by : (none : Bool) → eqb (chain_refusal part x row) 0 ≡ none → P (cond none (took part x.pins moved) (turned_away (chain_refusal part x row) row memory))
      by true e = f (eqb-true _ _ e)
      by false e = g

  pub step_told : number_of (chain_stepped part x row memory).outcome ≡ chain_refusal part x row
  step_told = step_by (λ a. number_of a.outcome ≡ chain_refusal part x row) (λ none. sym none) refl

  pub step_length : length (chain_stepped part x row memory).memory ≡ length memory
  step_length = step_by (λ a. length a.memory ≡ length memory) (λ none. moved_length part x row memory row.count) refl

  pub step_count : (chain_stepped part x row memory).row.count ≡ row.count
  step_count = step_by (λ a. a.row.count ≡ row.count) (λ none. moved_count part x row memory row.count) refl

  moved_fits : (words : ℕ) → Fitting part words row → Fitting part words moved.row
  moved_fits words f =
      let same = moved_count part x row memory row.count in
      record {
        most = rw same f.most;
        eight = moved_eight part x row memory row.count ∙ f.eight;
        enough = rw same f.enough;
        wide = rw same
            (all_by (widths part) moved.row row.count
            (λ i l. moved_widths part x row memory row.count i (λ k m. all_at (widths part) row row.count k f.wide m)
            (all_at (widths part) row row.count i f.wide l)));
      }

  pub step_fits : (words : ℕ) → fits part words row ≡ true → fits part words (chain_stepped part x row memory).row ≡ true
  step_fits words e =
      step_by (λ a. fits part words a.row ≡ true) (λ none. told_fits part words moved.row (moved_fits words (fits_told part words row e))) e

-- the first of these that a test fails is enough
fails_by : {A : Type 0} (all : Bool) → (all ≡ true → A) → ¬ A → all ≡ false
fails_by true f n = absurd (n (f refl))
fails_by false f n = refl

pub one_fails : (test : State → Bool) (row : Row) (n i : ℕ) → i < n → test (state_of row i) ≡ false → all_to test row n ≡ false
one_fails test row n i l e = fails_by (all_to test row n) (λ all. all_at test row n i all l) (λ t. true≢false (sym t ∙ e))

-- 3: the part's own test, and after a Master Reset fall-through, of whichever part
pub passes_exactly : (part : Part) (s : State) → passes part s ≡ true → passes_part part s ≡ not s.started || is_fwft s.read.mode
unfolding passes_part
passes_exactly part s e = rw e refl

pub three_by_standard : (part : Part) (row : Row) (n i : ℕ) → i < n → (state_of row i).started ≡ true → is_fwft (state_of row i).read.mode ≡ false → passes_to part row n ≡ false
unfolding passes_part
three_by_standard part row n i l begun mode = one_fails (passes_part part) row n i l (simp (begun, mode, and-false))

module _ (part : Part) (x : Links) (row : Row) where
  -- 5 where any part has had no Master Reset
  pub five_by_any : (i : ℕ) → i < row.count → (state_of row i).started ≡ false → plain x.more ≡ true → x.pins.mrs ≡ true → chain_refusal part x row ≡ 5
  unfolding chain_refusal
  five_by_any i l e three high = five_comes x _ _ three high (one_fails (λ s. s.started) row row.count i l e)

  abbrev number_at : ℕ → ℕ
  number_at i = refusal_of part (wired_to part x row i) (state_of row i)

  -- the least number of any part: none gives a lower one, and one of them gives it
  pub judged_least : (n i : ℕ) → i < n → number_at i ≢ 0 → (judged_to part x row n ≢ 0) × (judged_to part x row n ≤ number_at i)
  unfolding judged_to
  judged_least zero i l some = absurd (not-suc-le-zero l)
  judged_least (suc n) i l some =
      let two = least_told (judged_to part x row n) (number_at n) in
      ⊎_elim (λ z. subst (λ (k : ℕ). (judged_to part x row (suc n) ≢ 0) × (judged_to part x row (suc n) ≤ number_at k)) (sym z) (two.low_other (subst (λ (k : ℕ). number_at k ≢ 0) z some)))
      (λ z. (let before = judged_least n i z some in let now = two.low_one before.0 in (now.0, omega (arith, now.1, before.1))))
      (eq-or-lt_of_le (le_of_suc-le-suc l))

  pub record GivenBy (n number : ℕ) : Type 0 where
    pub at : ℕ
    pub below : at < n
    pub given : number ≡ number_at at

  pub judged_given : (n : ℕ) → (judged_to part x row n ≡ 0) ⊎ GivenBy n (judged_to part x row n)
  unfolding judged_to
  judged_given zero = inl refl
  judged_given (suc n) =
      ⊎_elim
      (λ first. ⊎_elim (λ none. inl (first ∙ none)) (λ by. inr (record { at = by.at; below = omega (arith, by.below); given = first ∙ by.given })) (judged_given n))
      (λ last. inr (record { at = n; below = omega arith; given = last })) (least_told (judged_to part x row n) (number_at n)).either

-- each number of a chain has its refusal
abbrev Numbered : ℕ → Type 0
Numbered n = refusals.number_of (refusals.of_number n) ≡ n

least_numbered : (one other : ℕ) → Numbered one → Numbered other → Numbered (least one other)
unfolding least
least_numbered one other a b = either Numbered (eqb one 0) other _ b (either Numbered (eqb other 0) one _ a (either Numbered (ltb one other) one other a b))

module _ (part : Part) (x : Links) (row : Row) where
  judged_numbered : (n : ℕ) → Numbered (judged_to part x row n)
  unfolding judged_to
  judged_numbered zero = refl
  judged_numbered (suc n) = least_numbered (judged_to part x row n) _ (judged_numbered n) (refusal_numbered part _ _)

  pub chain_numbered : refusals.number_of (refusals.of_number (chain_refusal part x row)) ≡ chain_refusal part x row
  unfolding chain_refusal whole_refusal
  chain_numbered =
      either Numbered (plain x.more) _ 4
      (either Numbered (x.pins.mrs && not (started_to row row.count)) 5 _ refl
      (either Numbered (fourteen x.pins) 14 _ refl (judged_numbered row.count))) refl
