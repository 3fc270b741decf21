-- What is turned away, on a run, whichever model it works: it ends at a refused sample, with its index and number, or past the last one. A
-- lenient run goes to the end and marks each sample with its number.
use Prim.Native.Nat.{ℕ, zero, suc, ◌+◌, ◌≤◌, ◌<◌}
use Rattle.std.specs.Prelude.{Bool, false, cond, not, ◌&&◌, ◌≢◌, ◌≡◌, eqb, take}
use Rattle.std.proofs.Math.Bool.{true}
use mathlib.Core.List.{List, [], ◌∷◌, ◌++◌}
use Rattle.std.proofs.Math.Path.{refl, ap}
use Rattle.std.proofs.Common.{◌∙◌, eq-eqb}
use Rattle.std.proofs.Math.ListN.{get_or, length, length-set}
use Rattle.std.proofs.Math.Seq.{get_or-set_other, get_or-set_same}
use Rattle.std.proofs.Math.Nat.{add-zero}
use native.Mathlib.Omega.{arith}
use Rattle.pins.specs.Trace.{items_from}
use Rattle.notes.specs.Fold.{Ended, Progress, Stepping, ended, folded, noted, stops}
use Rattle.notes.specs.FoldLaws.{fold_split}

-- a run ends one way or the other
pub cond_either : {A : Type 0} (P : A → Type 0) (test : Bool) (a b : A) → (test ≡ true → P a) → P b → P (cond test a b)
cond_either P true a b f g = f refl
cond_either P false a b f g = g

-- state and memory after samples one by one
pub record Left (S M : Type 0) : Type 0 where
  pub state : S
  pub memory : M

abbrev pub left_by : {X S M : Type 0} → Stepping X S M → S → M → List X → Left S M
left_by step s memory [] = record { state = s; memory = memory }
left_by step s memory (x ∷ xs) = left_by step (step x s memory).state (step x s memory).memory xs

module _ {X S M : Type 0} (step : Stepping X S M) where
  -- where the run of so many samples from an index on ends, and with which number
  pub record Reaches (lenient : Bool) (item : ℕ → X) (last index many accepted : ℕ) (e : Ended S M) : Type 0 where
    pub within : e.index ≤ index + many
    pub to_the_end : lenient ≡ true → e.index ≡ index + many
    pub counted : lenient ≡ false → e.progress.accepted + index ≡ accepted + e.index
    pub at_the_end : e.index ≡ index + many → e.refusal ≡ last
    pub at_sample : e.index ≢ index + many → ((step (item e.index) e.progress.state e.progress.memory).number ≡ e.refusal) × (e.refusal ≢ 0)

  module _ (item : ℕ → X) (last : ℕ) where
    goes_on : {lenient : Bool} {index many more accepted : ℕ} {e : Ended S M} → (lenient ≡ false → more ≡ accepted + 1)
        → Reaches lenient item last (index + 1) many more e → Reaches lenient item last index (suc many) accepted e
    goes_on one r = record {
      within = omega (arith, r.within);
      to_the_end = λ l. omega (arith, r.to_the_end l);
      counted = λ l. omega (arith, r.counted l, one l);
      at_the_end = λ h. r.at_the_end (omega arith);
      at_sample = λ h. r.at_sample (λ e. h (omega arith));
    }

    by_number : (lenient free : Bool) (number index many : ℕ) (g : Progress S M) (rest : Ended S M) → eqb number 0 ≡ free
        → (step (item index) g.state g.memory).number ≡ number
        → Reaches lenient item last (index + 1) many (cond free (g.accepted + 1) g.accepted) rest
        → Reaches lenient item last index (suc many) g.accepted (cond (not lenient && not free) (ended number index g) rest)
    by_number true true number index many g rest z e r = goes_on (λ l. refl) r
    by_number true false number index many g rest z e r = goes_on (λ l. let z : ◌≡◌ {A = ℕ} 0 1 = cc in absurd (omega arith)) r
    by_number false true number index many g rest z e r = goes_on (λ l. refl) r
    by_number false false number index many g rest z e r = record {
      within = omega arith;
      to_the_end = λ l. let z : ◌≡◌ {A = ℕ} 0 1 = cc in absurd (omega arith);
      counted = λ l. refl;
      at_the_end = λ h. absurd (omega arith);
      at_sample = λ h. (e, λ none. let one : ◌≡◌ {A = ℕ} 0 1 = cc (eq-eqb number 0 none, z) in absurd (omega arith));
    }

    pub reaches : (lenient : Bool) (many index : ℕ) (g : Progress S M)
        → Reaches lenient item last index many g.accepted (folded lenient step last (items_from item index many) index g)
    unfolding folded items_from
    reaches lenient zero index g = record {
      within = omega arith;
      to_the_end = λ l. omega arith;
      counted = λ l. refl;
      at_the_end = λ h. refl;
      at_sample = λ h. absurd (h (omega arith));
    }
    reaches lenient (suc many) index g =
        let t = step (item index) g.state g.memory in
        by_number lenient (eqb t.number 0) t.number index many g
        (folded lenient step last (items_from item (index + 1) many) (index + 1) (noted lenient index t g)) refl refl
        (reaches lenient many (index + 1) (noted lenient index t g))

  -- an end that is so many samples further on, and there the state and memory that these leave one by one
  pub record Follows (g : Progress S M) (xs : List X) (index : ℕ) (e : Ended S M) : Type 0 where
    pub many : ℕ
    pub further : e.index ≡ index + many
    pub state : e.progress.state ≡ (left_by step g.state g.memory (take many xs)).state
    pub memory : e.progress.memory ≡ (left_by step g.state g.memory (take many xs)).memory

  stays : (g : Progress S M) (xs : List X) (number index : ℕ) → Follows g xs index (ended number index g)
  stays g xs number index = record { many = 0; further = omega arith; state = refl; memory = refl }

  follows_by : (stop : Bool) (g : Progress S M) (x : X) (xs : List X) (number index : ℕ) (h : Progress S M) (rest : Ended S M)
      → h.state ≡ (step x g.state g.memory).state → h.memory ≡ (step x g.state g.memory).memory → Follows h xs (index + 1) rest
      → Follows g (x ∷ xs) index (cond stop (ended number index g) rest)
  follows_by true g x xs number index h rest s m f = stays g (x ∷ xs) number index
  follows_by false g x xs number index h rest s m f = record {
    many = suc f.many;
    further = omega (arith, f.further);
    state = rw (s, m) at f.state;
    memory = rw (s, m) at f.memory;
  }

  pub fold_follows : (lenient : Bool) (last : ℕ) (xs : List X) (index : ℕ) (g : Progress S M) → Follows g xs index (folded lenient step last xs index g)
  unfolding folded
  fold_follows lenient last [] index g = stays g [] last index
  fold_follows lenient last (x ∷ xs) index g =
      let t = step x g.state g.memory in
      follows_by (stops lenient t.number) g x xs t.number index (noted lenient index t g) _ refl refl
      (fold_follows lenient last xs (index + 1) (noted lenient index t g))

  -- what holds of every sample's number and of the end's holds of the number that a run ends with
  pub fold_number : (P : ℕ → Type 0) → ((x : X) (s : S) (memory : M) → P (step x s memory).number) → (lenient : Bool) (last : ℕ) → P last
      → (xs : List X) (index : ℕ) (g : Progress S M) → P (folded lenient step last xs index g).refusal
  unfolding folded
  fold_number P each lenient last h [] index g = h
  fold_number P each lenient last h (x ∷ xs) index g =
      let t = step x g.state g.memory in
      cond_either (λ (e : Ended S M). P e.refusal) (stops lenient t.number) (ended t.number index g) _
      (λ stopped. each x g.state g.memory) (fold_number P each lenient last h xs (index + 1) (noted lenient index t g))

  -- marks of samples before an index stay, and so does their room
  marks_kept : (last : ℕ) (xs : List X) (index : ℕ) (g : Progress S M)
      → (length (folded true step last xs index g).progress.marks ≡ length g.marks)
      × ((i : ℕ) → i < index → get_or (folded true step last xs index g).progress.marks i 0 ≡ get_or g.marks i 0)
  unfolding folded
  marks_kept last [] index g = (refl, λ i h. refl)
  marks_kept last (x ∷ xs) index g =
      let t = step x g.state g.memory in
      let rest = marks_kept last xs (index + 1) (noted true index t g) in (
        rest.0 ∙ length-set g.marks index t.number,
        λ i h. rest.1 i (omega arith) ∙ get_or-set_other g.marks index i t.number 0 (λ e. absurd (omega arith)),
      )

  goes_through : (last : ℕ) (xs : List X) (index : ℕ) (g : Progress S M)
      → folded true step last xs index g ≡ ended last (index + length xs) (folded true step last xs index g).progress
  unfolding folded
  goes_through last [] index g = rw add-zero refl
  goes_through last (x ∷ xs) index g =
      let on : index + suc (length xs) ≡ index + 1 + length xs = omega arith in
      rw on (goes_through last xs (index + 1) (noted true index (step x g.state g.memory) g))

  -- the mark at an index is the number of the sample there, in the state that the samples before it left
  pub mark_at : (last : ℕ) (xs ys : List X) (x : X) (index : ℕ) (g : Progress S M) → index + length xs < length g.marks
      → let h = (folded true step 0 xs index g).progress in
      get_or (folded true step last (xs ++ (x ∷ ys)) index g).progress.marks (index + length xs) 0 ≡ (step x h.state h.memory).number
  unfolding folded
  mark_at last xs ys x index g room =
      let h = (folded true step 0 xs index g).progress in
      let t = step x h.state h.memory in
      let at = index + length xs in
      let long : length h.marks ≡ length g.marks = (marks_kept 0 xs index g).0 in
      ap (λ (e : Ended S M). get_or e.progress.marks at 0) (fold_split true step last (x ∷ ys) xs index g h (goes_through 0 xs index g))
      ∙ (marks_kept last ys (at + 1) (noted true at t h)).1 at (omega arith)
      ∙ get_or-set_same h.marks at t.number 0 (omega arith)
