-- What is turned away, on a run of a whole trace, whichever model works it: where it ends, what a lenient one marks, and a trace worked in two
-- parts.
use Prim.Native.Nat.{ℕ, suc, ◌+◌, ◌*◌, ◌-◌, ◌/◌, ◌%◌, ◌≤◌, ◌<◌}
use Rattle.std.specs.Prelude.{Bool, true, false, cond, List, ◌++◌, ◌≢◌, ◌≡◌, eqb, get_or}
use Rattle.std.proofs.Common.{sym, ap, ◌∙◌, length-append, eq-eqb, ne_eqb, add_comm, le-div_iff_mul-le, mul-div_cancel, zero-add}
use Rattle.std.proofs.Math.ListN.{length}
use Rattle.std.proofs.Math.Nat.{add-mul-div_right, add-mul-mod_self_right, mul-mod_left, one-mul}
use native.Mathlib.Omega.{arith}
use Rattle.pins.specs.Trace.{items_from}
use Rattle.pins.specs.TraceLaws.{items_length}
use Rattle.notes.specs.Fold.{Ended, Progress, Stepping, ended, folded}
use Rattle.notes.specs.FoldLaws.{fold_split}
use Rattle.notes.specs.ReachLaws.{mark_at, reaches}

-- how a trace is cut into items of so many bytes: what stands at an index, and the number that its end gives, 4 where bytes are left over
pub record Cut {X : Type 0} (size : ℕ) (item : List ℕ → ℕ → X) (last : List ℕ → ℕ) : Type 0 where
  pub some : 0 < size
  pub ends : (bytes : List ℕ) → last bytes ≡ cond (eqb (length bytes % size) 0) 0 4
  pub split : (u v : List ℕ) (whole : ℕ) → length u ≡ whole * size → (many : ℕ)
      → items_from (item (u ++ v)) 0 (whole + many) ≡ items_from (item u) 0 whole ++ items_from (item v) 0 many

-- where a run of so many whole items, with so many bytes left over, ends; `number` is that of the item at an index, in a state
pub record Ending {S M : Type 0} (number : ℕ → S → ℕ) (lenient : Bool) (whole over accepted : ℕ) (e : Ended S M) : Type 0 where
  pub within : e.index ≤ whole
  pub to_the_end : lenient ≡ true → e.index ≡ whole
  pub counted : lenient ≡ false → e.progress.accepted ≡ accepted + e.index
  pub clean : e.index ≡ whole → over ≡ 0 → e.refusal ≡ 0
  pub leftover : e.index ≡ whole → over ≢ 0 → e.refusal ≡ 4
  pub refused : e.index ≢ whole → (number e.index e.progress.state ≡ e.refusal) × (e.refusal ≢ 0)

module _ {X S M : Type 0} {size : ℕ} {item : List ℕ → ℕ → X} {last : List ℕ → ℕ} (cut : Cut size item last) (step : Stepping X S M) where
  abbrev pub works_from : Bool → List ℕ → ℕ → Progress S M → Ended S M
  works_from lenient bytes index g = folded lenient step (last bytes) (items_from (item bytes) 0 (length bytes / size)) index g

  pub work_ends : (number : X → S → ℕ) → ((x : X) (s : S) (memory : M) → (step x s memory).number ≡ number x s)
      → (lenient : Bool) (bytes : List ℕ) (g : Progress S M)
      → Ending (λ at s. number (item bytes at) s) lenient (length bytes / size) (length bytes % size) g.accepted (works_from lenient bytes 0 g)
  work_ends number told lenient bytes g =
      let r = reaches step (item bytes) (last bytes) lenient (length bytes / size) 0 g in
      let e = works_from lenient bytes 0 g in
      let all : 0 + length bytes / size ≡ length bytes / size = zero-add (length bytes / size) in
      record {
        within = omega (arith, r.within, all);
        to_the_end = λ l. r.to_the_end l ∙ all;
        counted = λ l. omega (arith, r.counted l);
        clean = λ h none. r.at_the_end (h ∙ sym all) ∙ cut.ends bytes ∙ simp (eq-eqb (length bytes % size) 0 none);
        leftover = λ h over. r.at_the_end (h ∙ sym all) ∙ cut.ends bytes ∙ simp (ne_eqb (length bytes % size) 0 over);
        refused = λ h. (let at = r.at_sample (λ same. h (same ∙ all)) in
            (sym (told (item bytes e.index) e.progress.state e.progress.memory) ∙ at.0, at.1));
      }

  -- a trace in two parts, the first of whole items
  module _ (u v : List ℕ) (whole : ℕ) (e : length u ≡ whole * size) where
    both : length (u ++ v) ≡ length v + whole * size
    both = length-append u v ∙ add_comm (length u) (length v) ∙ ap (λ (n : ℕ). length v + n) e

    items_both : length (u ++ v) / size ≡ whole + length v / size
    items_both = ap (λ (n : ℕ). n / size) both ∙ add-mul-div_right (length v) whole cut.some ∙ add_comm (length v / size) whole

    items_first : length u / size ≡ whole
    items_first = ap (λ (n : ℕ). n / size) e ∙ mul-div_cancel whole cut.some

    end_both : last (u ++ v) ≡ last v
    end_both =
        let over : length (u ++ v) % size ≡ length v % size = ap (λ (n : ℕ). n % size) both ∙ add-mul-mod_self_right (length v) whole size in
        cut.ends (u ++ v) ∙ rw over (sym (cut.ends v))

    end_first : last u ≡ 0
    end_first = cut.ends u ∙ simp (eq-eqb (length u % size) 0 (ap (λ (n : ℕ). n % size) e ∙ mul-mod_left whole size))

    many : 0 + length (items_from (item u) 0 whole) ≡ whole
    many = zero-add (length (items_from (item u) 0 whole)) ∙ items_length (item u) 0 whole

    -- worked whole, it leaves what the second goes on from
    pub work_split : (lenient : Bool) (g h : Progress S M) → works_from lenient u 0 g ≡ ended 0 whole h → works_from lenient (u ++ v) 0 g ≡ works_from lenient v whole h
    work_split lenient g h taken =
        let start : folded lenient step 0 (items_from (item u) 0 whole) 0 g ≡ ended 0 (0 + length (items_from (item u) 0 whole)) h =
        rw many (rw (end_first, items_first) at taken) in
        rw (end_both, items_both, cut.split u v whole e (length v / size))
        (fold_split lenient step (last v) (items_from (item v) 0 (length v / size)) (items_from (item u) 0 whole) 0 g h start
        ∙ ap (λ (i : ℕ). works_from lenient v i h) many)

    -- the mark at an index is the number of the item there, in the state that the items before it left
    pub mark_told : (g : Progress S M) → size ≤ length v → whole < length g.marks → let before = (works_from true u 0 g).progress in
        get_or (works_from true (u ++ v) 0 g).progress.marks whole 0 ≡ (step (item v 0) before.state before.memory).number
    unfolding items_from
    mark_told g more room =
        let there : 1 ≤ length v / size = (le-div_iff_mul-le cut.some).1 (rw one-mul more) in
        let next : length v / size ≡ suc (length v / size - 1) = omega arith in
        let xs = items_from (item u) 0 whole in
        let ys = items_from (item v) 1 (length v / size - 1) in
        rw (end_both, items_both, end_first, items_first, cut.split u v whole e (length v / size), next)
        (rw many at (mark_at step (last v) xs ys (item v 0) 0 g (rw many room)))
