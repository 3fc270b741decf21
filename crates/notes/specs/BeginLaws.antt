-- What is turned away, on a run: 1, 2 and 3 come before any sample, in this order and with index 0.
use Rattle.std.specs.Prelude.{ℕ, ◌≤◌, ◌<◌, Bool, true, false, not, ◌&&◌, ◌||◌, ◌≢◌, ◌≡◌, refl, leb, length, Option, Some, None}
use Rattle.std.proofs.Math.Bool.{and-false}
use Rattle.std.proofs.Common.{sym}
use borrow.Author.Tests.{le-leb, leb-true, lt-leb, ne_eqb}
use Rattle.counts.specs.declared.part.Part.{Part}
use Rattle.counts.specs.Both.{both}
use Rattle.counts.specs.Part.{part_of}
use Rattle.notes.specs.Fold.{Ended, Progress, begun, ended, roomy}

module _ {S M : Type 0} (number : ℕ) (fits passes : Part → Bool) (worked : Part → Ended S M) (g : Progress S M) where
  pub one_comes : number ≢ 255 → number ≢ 265 → begun number fits passes worked g ≡ ended 1 0 g
  unfolding begun
  one_comes n m = simp (ne_eqb number 255 n, ne_eqb number 265 m)

  -- by what a look-up gave
  module _ {looked : Option Part} (l : looked ≡ part_of number) where
    pub begun_unknown : looked ≡ None → begun number fits passes worked g ≡ ended 1 0 g
    unfolding begun
    begun_unknown u = simp (← l, u)

    module _ (part : Part) (k : looked ≡ Some part) where
      pub begun_room : fits part ≡ false → begun number fits passes worked g ≡ ended 2 0 g
      unfolding begun
      begun_room f = simp (← l, k, f)

      pub begun_state : fits part ≡ true → passes part ≡ false → begun number fits passes worked g ≡ ended 3 0 g
      unfolding begun
      begun_state f t = simp (← l, k, f, t)

      pub begun_works : fits part ≡ true → passes part ≡ true → begun number fits passes worked g ≡ worked part
      unfolding begun
      begun_works f t = simp (← l, k, f, t)

marks_fit : (lenient : Bool) (whole marks : ℕ) → (lenient ≡ true → whole ≤ marks) → not lenient || leb whole marks ≡ true
marks_fit true whole marks h = le-leb whole marks (h refl)
marks_fit false whole marks h = refl

-- a memory that is sized and rooms that suffice, told one by one
pub both_told : {a b sized roomed is : Bool} → a ≡ sized → b ≡ roomed → a && b ≡ is → sized && roomed ≡ is
both_told e f h = rw (← e, ← f) h

pub room_told : (sized lenient : Bool) (bytes whole answers marks : ℕ) → sized && roomy lenient bytes whole answers marks ≡ true → bytes ≤ answers
room_told sized lenient bytes whole answers marks e =
    leb-true _ _ (both (leb bytes answers) (not lenient || leb whole marks) (both sized (roomy lenient bytes whole answers marks) e).1).0

-- how a run begins for a part that is known: 2 by its memory or by a room, 3 by its state, and else its samples
pub record Begins {S M : Type 0} (lenient : Bool) (Sized : Type 0) (bytes whole : ℕ) (passes : Bool) (e worked : Ended S M) (g : Progress S M) : Type 0 where
  pub two_by_memory : ¬ Sized → e ≡ ended 2 0 g
  pub two_by_answers : length g.answers < bytes → e ≡ ended 2 0 g
  pub two_by_marks : lenient ≡ true → length g.marks < whole → e ≡ ended 2 0 g
  pub three : Sized → bytes ≤ length g.answers → (lenient ≡ true → whole ≤ length g.marks) → passes ≡ false → e ≡ ended 3 0 g
  pub works : Sized → bytes ≤ length g.answers → (lenient ≡ true → whole ≤ length g.marks) → passes ≡ true → e ≡ worked

module _ {S M : Type 0} (lenient : Bool) (bytes whole : ℕ) (sized passes : Part → Bool) (worked : Part → Ended S M) (g : Progress S M) where
  abbrev fits : Part → Bool
  fits part = sized part && roomy lenient bytes whole (length g.answers) (length g.marks)

  pub begins : (number : ℕ) (part : Part) → part_of number ≡ Some part → {Sized : Type 0} → (Sized → sized part ≡ true) → (¬ Sized → sized part ≡ false)
      → Begins lenient Sized bytes whole (passes part) (begun number fits passes worked g) (worked part) g
  unfolding begun
  begins number part k {Sized} is none =
      let away : fits part ≡ false → begun number fits passes worked g ≡ ended 2 0 g = begun_room number fits passes worked g (sym k) part refl in
      let fit : Sized → bytes ≤ length g.answers → (lenient ≡ true → whole ≤ length g.marks) → fits part ≡ true =
      λ s room marks. simp (is s, le-leb bytes (length g.answers) room, marks_fit lenient whole (length g.marks) marks) in
      record {
        two_by_memory = λ s. away (simp (none s));
        two_by_answers = λ short. away (simp (lt-leb bytes (length g.answers) short, and-false));
        two_by_marks = λ l short. away (simp (l, lt-leb whole (length g.marks) short, and-false));
        three = λ s room marks t. let f : fits part ≡ true = fit s room marks in simp (k, f, t);
        works = λ s room marks. begun_works number fits passes worked g (sym k) part refl (fit s room marks);
      }
