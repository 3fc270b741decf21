-- One sample over a memory: What is turned away, and what a taken one gives.
use Rattle.std.specs.Prelude.{ℕ, Bool, true, false, cond, List, ◌≡◌, eqb, get_or, length}
use Rattle.chip.specs.declared.advance.Advanced.{Advanced}
use Rattle.chip.specs.declared.state.State.{State}
use Rattle.chip.specs.Advance.{advanced, stored}
use Rattle.refusals.specs.Refuse.{refusal_of}
use Rattle.chip.specs.State.{passes}
use Rattle.counts.specs.declared.part.Part.{Part}
use Rattle.counts.specs.Part.{by_part, depth_of, part_of}
use Rattle.counts.specs.Round.{place_of}
use Rattle.pins.specs.declared.record.Pins.{Pins}
use Rattle.pins.specs.Answer.{put_answer}
use Rattle.pins.specs.Record.{pins_of}
use Rattle.fifo.specs.Outcome.{Outcome, Refused, Sampled, Taken}

-- What an outcome stands for: its number, 0 where the sample is taken
abbrev pub number_of : Outcome → ℕ
number_of (Taken answer) = 0
number_of (Refused number) = number

abbrev pub is_taken : Outcome → Bool
is_taken (Taken answer) = true
is_taken (Refused number) = false

abbrev pub answer_in : Outcome → ℕ
answer_in (Taken answer) = answer
answer_in (Refused number) = 0

-- and its value, the answer, in a room for answers: a refused one writes none
abbrev pub answers_after : Outcome → ℕ → List ℕ → List ℕ
answers_after (Taken answer) index room = put_answer room index answer
answers_after (Refused number) index room = room

-- what comes back of a sample, and the memory's words after it
pub record After : Type 0 where
  pub sampled : Sampled
  pub memory : List ℕ

-- refused: a number, and nothing moved
abbrev pub turned_away : ℕ → State → List ℕ → After
turned_away number s memory = record { sampled = record { outcome = Refused number; state = s }; memory = memory }

abbrev pub took : Advanced → List ℕ → After
took a memory = record { sampled = record { outcome = Taken a.answer; state = a.state }; memory = stored a.store memory }

-- the word at the place of the read count
abbrev pub fetched_for : Part → State → List ℕ → ℕ
fetched_for part s memory = get_or memory (place_of (depth_of part) s.read.count.0) 0

unfoldable pub taken : Part → Pins → State → List ℕ → After
taken part p s memory = took (advanced part p (fetched_for part s memory) s) memory

-- a record of four bytes is judged by its pins and D's mark
unfoldable pub record_refusal : Part → ℕ → State → ℕ
record_refusal part x s = refusal_of part (pins_of x) s

abbrev pub RefusesRecord : Part → ℕ → State → ℕ → Type 0
RefusesRecord part x s r = r ≡ record_refusal part x s

-- one record, for a part, a memory and a state that have passed 1 to 3
unfoldable pub stepped : Part → ℕ → State → List ℕ → After
stepped part x s memory = cond (eqb (record_refusal part x s) 0) (taken part (pins_of x) s memory) (turned_away (record_refusal part x s) s memory)

-- as many words as the part is deep
abbrev pub is_depth : Part → ℕ → Bool
is_depth part words = eqb words (depth_of part)

-- 1, 2, 3, and then the record
unfoldable pub sampled : ℕ → ℕ → State → List ℕ → After
sampled number x s memory =
    by_part (part_of number)
    (λ part. cond (is_depth part (length memory)) (cond (passes part s) (stepped part x s memory) (turned_away 3 s memory)) (turned_away 2 s memory))
    (turned_away 1 s memory)

-- the first that applies of 1, 2 and 3, for a memory of so many words, and then of the record's; 0 where none does
unfoldable pub sample_refusal : ℕ → ℕ → State → ℕ → ℕ
sample_refusal number x s words =
    by_part (part_of number) (λ part. cond (is_depth part words) (cond (passes part s) (record_refusal part x s) 3) 2) 1

-- a result and a memory that are those of a definition
pub record Gives (expected : After) (r : Sampled) (memory : List ℕ) : Type 0 where
  pub result : r ≡ expected.sampled
  pub words : memory ≡ expected.memory

pub record Steps (part : Part) (x : ℕ) (s : State) (memory : List ℕ) (r : Sampled) (after : List ℕ) : Type 0 where
  pub refusal : number_of r.outcome ≡ record_refusal part x s
  pub gives : Gives (stepped part x s memory) r after

pub record Samples (number x : ℕ) (s : State) (memory : List ℕ) (r : Sampled) (after : List ℕ) : Type 0 where
  pub refusal : number_of r.outcome ≡ sample_refusal number x s (length memory)
  pub gives : Gives (sampled number x s memory) r after
