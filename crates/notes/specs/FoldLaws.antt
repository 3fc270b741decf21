-- A trace may be worked in parts, whichever model works it.
use Rattle.std.specs.Prelude.{ℕ, suc, ◌+◌, ◌*◌, Bool, true, false, cond, ◌≡◌, eqb, length, set}
use mathlib.Core.List.{List, [], ◌∷◌, ◌++◌}
use Rattle.std.proofs.Math.Path.{refl, ap}
use Rattle.std.proofs.Common.{add-zero, suc-add, zero-add}
use native.Mathlib.Omega.{arith}
use Rattle.pins.specs.Answer.{put_answer}
use Rattle.notes.specs.Fold.{Ended, Progress, Stepping, Turn, ended, folded, marks_after, noted, stops}

module _ {X S M : Type 0} (lenient : Bool) (step : Stepping X S M) (last : ℕ) (ys : List X) where
  split_by : (stop : Bool) (number index many : ℕ) (g h : Progress S M) (first whole : Ended S M)
      → (first ≡ ended 0 (index + 1 + many) h → whole ≡ folded lenient step last ys (index + 1 + many) h)
      → cond stop (ended number index g) first ≡ ended 0 (index + suc many) h
      → cond stop (ended number index g) whole ≡ folded lenient step last ys (index + suc many) h
  split_by true number index many g h first whole next e =
      let stuck : index ≡ index + suc many = ap (λ (x : Ended S M). x.index) e in absurd (omega arith)
  split_by false number index many g h first whole next e =
      let on : index + suc many ≡ index + 1 + many = omega arith in
      rw on (next (rw on at e))

  -- the first samples worked to their end, and then the rest, with the index moved on
  pub fold_split : (xs : List X) (index : ℕ) (g h : Progress S M) → folded lenient step 0 xs index g ≡ ended 0 (index + length xs) h
      → folded lenient step last (xs ++ ys) index g ≡ folded lenient step last ys (index + length xs) h
  unfolding folded
  fold_split [] index g h e =
      let same : g ≡ h = ap (λ (x : Ended S M). x.progress) e in rw (add-zero, same)
  fold_split (x ∷ xs) index g h e =
      let t = step x g.state g.memory in
      split_by (stops lenient t.number) t.number index (length xs) g h
      (folded lenient step 0 xs (index + 1) (noted lenient index t g)) (folded lenient step last (xs ++ ys) (index + 1) (noted lenient index t g))
      (fold_split xs (index + 1) (noted lenient index t g) h) e

-- what holds of every state on the way
abbrev pub Along : {X S M : Type 0} → Stepping X S M → (S → Type 0) → List X → S → M → Type 0
Along step P [] s memory = Unit {0}
Along step P (x ∷ xs) s memory = P s × Along step P xs (step x s memory).state (step x s memory).memory

-- steps that agree where it holds, on memories that go on to fit, give the same
pub same_steps : {X S M : Type 0} (lenient : Bool) (step other : Stepping X S M) (P : S → Type 0) (fits : M → Type 0)
    → ((x : X) (s : S) (memory : M) → fits memory → fits (step x s memory).memory)
    → ((x : X) (s : S) (memory : M) → P s → fits memory → other x s memory ≡ step x s memory)
    → (last : ℕ) (xs : List X) (index : ℕ) (g : Progress S M) → fits g.memory → Along step P xs g.state g.memory
    → folded lenient step last xs index g ≡ folded lenient other last xs index g
unfolding folded
same_steps lenient step other P fits keeps same last [] index g f p = refl
same_steps {S = S} {M = M} lenient step other P fits keeps same last (x ∷ xs) index g f p =
    let t = step x g.state g.memory in
    rw (same x g.state g.memory p.0 f)
    (ap (λ (rest : Ended S M). cond (stops lenient t.number) (ended t.number index g) rest)
    (same_steps lenient step other P fits keeps same last xs (index + 1) (noted lenient index t g) (keeps x g.state g.memory f) p.1))

-- what earlier samples left in the rooms and the count
abbrev pub moved : {S M : Type 0} → List ℕ → List ℕ → ℕ → Progress S M → Progress S M
moved answers marks accepted g = record {
  state = g.state;
  accepted = accepted + g.accepted;
  memory = g.memory;
  answers = answers ++ g.answers;
  marks = marks ++ g.marks;
}

pub set_after : (xs ys : List ℕ) (n a : ℕ) → set (xs ++ ys) (length xs + n) a ≡ xs ++ set ys n a
set_after [] ys n a = rw zero-add refl
set_after (x ∷ xs) ys n a = rw suc-add (ap (λ (l : List ℕ). x ∷ l) (set_after xs ys n a))

-- an answer behind so many others
pub put_after : (before : List ℕ) (many : ℕ) → length before ≡ many * 3 → (room : List ℕ) (index answer : ℕ)
    → put_answer (before ++ room) (many + index) answer ≡ before ++ put_answer room index answer
unfolding put_answer
put_after before many three room index answer =
    let first : (many + index) * 3 ≡ length before + index * 3 = omega arith in
    let second : (many + index) * 3 + 1 ≡ length before + (index * 3 + 1) = omega arith in
    let third : (many + index) * 3 + 2 ≡ length before + (index * 3 + 2) = omega arith in
    rw (third, second, first) (simp set_after)

more_accepted : (taken : Bool) (accepted count : ℕ) → cond taken (accepted + count + 1) (accepted + count) ≡ accepted + cond taken (count + 1) count
more_accepted true accepted count = omega arith
more_accepted false accepted count = refl

marks_moved : (lenient : Bool) (marks : List ℕ) (many number index : ℕ) (room : List ℕ) → (lenient ≡ true → length marks ≡ many)
    → marks_after lenient number (many + index) (marks ++ room) ≡ marks ++ marks_after lenient number index room
marks_moved true marks many number index room one = rw (← (one refl)) (set_after marks room index number)
marks_moved false marks many number index room one = refl

module _ {S M : Type 0} (before marks : List ℕ) (accepted many : ℕ) where
  abbrev pub moved_end : Ended S M → Ended S M
  moved_end e = ended e.refusal (many + e.index) (moved before marks accepted e.progress)

  ends_moved : (stop : Bool) (number index : ℕ) (g : Progress S M) (on off : Ended S M) → on ≡ moved_end off
      → cond stop (ended number (many + index) (moved before marks accepted g)) on ≡ moved_end (cond stop (ended number index g) off)
  ends_moved true number index g on off e = refl
  ends_moved false number index g on off e = e

  -- an answer goes to its own place behind those of earlier samples
  abbrev pub AnswersMove : Turn S M → Type 0
  AnswersMove t = (index : ℕ) (room : List ℕ) → t.answers (many + index) (before ++ room) ≡ before ++ t.answers index room

  noted_moved : (lenient : Bool) (index : ℕ) (t : Turn S M) (g : Progress S M) → (lenient ≡ true → length marks ≡ many) → AnswersMove t
      → noted lenient (many + index) t (moved before marks accepted g) ≡ moved before marks accepted (noted lenient index t g)
  noted_moved lenient index t g one placed =
      rw (
        more_accepted (eqb t.number 0) accepted g.accepted,
        placed index g.answers,
        marks_moved lenient marks many t.number index g.marks one,
      )

  -- a fold that goes on from an index is the fold from the start, with index, count and rooms moved on
  pub fold_moved : {X : Type 0} (lenient : Bool) (step : Stepping X S M) (last : ℕ) → (lenient ≡ true → length marks ≡ many)
      → ((x : X) (s : S) (memory : M) → AnswersMove (step x s memory)) → (xs : List X) (index : ℕ) (g : Progress S M)
      → folded lenient step last xs (many + index) (moved before marks accepted g) ≡ moved_end (folded lenient step last xs index g)
  unfolding folded
  fold_moved lenient step last one placed [] index g = refl
  fold_moved lenient step last one placed (x ∷ xs) index g =
      let t = step x g.state g.memory in
      let next : many + index + 1 ≡ many + (index + 1) = omega arith in
      ends_moved (stops lenient t.number) t.number index g _ _
      (rw (next, noted_moved lenient index t g one (placed x g.state g.memory))
      (fold_moved lenient step last one placed xs (index + 1) (noted lenient index t g)))
