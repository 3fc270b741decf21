-- What is turned away, on a run, whichever model it works: samples in order, answers as they come, and where it ends. A model's state and
-- memory are of any type here, and so is a sample.
use Rattle.std.specs.Prelude.{ℕ, ◌+◌, Bool, not, cond, ◌&&◌, ◌||◌, List, [], ◌∷◌, ◌≡◌, eqb, leb, set}
use Rattle.counts.specs.declared.part.Part.{Part}
use Rattle.counts.specs.Part.{by_part, part_of}

-- what one sample comes to: its number, 0 where it is taken, what it leaves, and its answer put at an index of a room, none where it is refused
pub record Turn (S M : Type 0) : Type 0 where
  pub number : ℕ
  pub state : S
  pub memory : M
  pub answers : ℕ → List ℕ → List ℕ

-- what works one sample
abbrev pub Stepping : Type 0 → Type 0 → Type 0 → Type 0
Stepping X S M = X → S → M → Turn S M

abbrev pub accepted_after : ℕ → ℕ → ℕ
accepted_after number accepted = cond (eqb number 0) (accepted + 1) accepted

-- a lenient run marks each sample with its number
abbrev pub marks_after : Bool → ℕ → ℕ → List ℕ → List ℕ
marks_after lenient number index room = cond lenient (set room index number) room

-- a strict run goes no further than a refused sample
abbrev pub stops : Bool → ℕ → Bool
stops lenient number = not lenient && not (eqb number 0)

-- how far a run has come: what it will hand back, and the rooms lent to it
pub record Progress (S M : Type 0) : Type 0 where
  pub state : S
  pub accepted : ℕ
  pub memory : M
  pub answers : List ℕ
  pub marks : List ℕ

abbrev pub started : {S M : Type 0} → S → M → List ℕ → List ℕ → Progress S M
started s memory answers marks = record { state = s; accepted = 0; memory = memory; answers = answers; marks = marks }

abbrev pub noted : {S M : Type 0} → Bool → ℕ → Turn S M → Progress S M → Progress S M
noted lenient index t g = record {
  state = t.state;
  accepted = accepted_after t.number g.accepted;
  memory = t.memory;
  answers = t.answers index g.answers;
  marks = marks_after lenient t.number index g.marks;
}

-- where a run ended, with which number, and what it had by then
pub record Ended (S M : Type 0) : Type 0 where
  pub refusal : ℕ
  pub index : ℕ
  pub progress : Progress S M

abbrev pub ended : {S M : Type 0} → ℕ → ℕ → Progress S M → Ended S M
ended number index g = record { refusal = number; index = index; progress = g }

-- the samples from an index on; `last` is the number that the end of the trace gives
unfoldable pub folded : {X S M : Type 0} → Bool → Stepping X S M → ℕ → List X → ℕ → Progress S M → Ended S M
folded lenient step last [] index g = ended last index g
folded lenient step last (x ∷ xs) index g =
    cond (stops lenient (step x g.state g.memory).number)
    (ended (step x g.state g.memory).number index g)
    (folded lenient step last xs (index + 1) (noted lenient index (step x g.state g.memory) g))

-- room for so many bytes of answers and, in a lenient run, for a mark of each whole sample
abbrev pub roomy : Bool → ℕ → ℕ → ℕ → ℕ → Bool
roomy lenient bytes whole answers marks = leb bytes answers && (not lenient || leb whole marks)

-- 1, 2 and 3 once, before any sample and with index 0, and then the samples: by what fits a part, what passes its test, and what works it
unfoldable pub begun : {S M : Type 0} → ℕ → (Part → Bool) → (Part → Bool) → (Part → Ended S M) → Progress S M → Ended S M
begun number fits passes worked g =
    by_part (part_of number) (λ part. cond (fits part) (cond (passes part) (worked part) (ended 3 0 g)) (ended 2 0 g)) (ended 1 0 g)

-- a result, memory and answer room that are those of a definition; `ran` is what a run hands back of its end
pub record EndsStrict {S M R : Type 0} (ran : Ended S M → R) (expected : Ended S M) (r : R) (memory : M) (answers : List ℕ) : Type 0 where
  pub result : r ≡ ran expected
  pub words : memory ≡ expected.progress.memory
  pub room : answers ≡ expected.progress.answers

-- and the marks, which a strict run has none of
pub record Ends {S M R : Type 0} (ran : Ended S M → R) (expected : Ended S M) (r : R) (memory : M) (answers marks : List ℕ) : Type 0 where
  pub strict : EndsStrict ran expected r memory answers
  pub marked : marks ≡ expected.progress.marks
