-- Two parts side by side: one sample on two records and two memories.
use Rattle.std.specs.Prelude.{ℕ, ◌+◌, ◌*◌, Bool, true, false, cond, ◌&&◌, List, ◌≡◌, eqb, length}
use Rattle.counts.specs.declared.part.Part.{Part}
use Rattle.counts.specs.Part.{by_part, part_of}
use Rattle.fifo.specs.Outcome as fifo
use Rattle.fifo.specs.Sample as single
use Rattle.fifo.specs.Sample.{answer_in, is_depth, stepped}
use Rattle.pins.specs.Answer.{put_answer}
use Rattle.pair.specs.Outcome.{Outcome, Refused, Sampled, Taken}
use Rattle.halves.specs.declared.state.Halves.{Halves}
use Rattle.halves.specs.Refuse.{pair_refusal}
use Rattle.halves.specs.State.{passes_both}
use Rattle.halves.specs.Two.{Two, two}

-- what an outcome stands for: its number, 0 where the sample is taken
abbrev pub number_of : Outcome → ℕ
number_of (Taken left right) = 0
number_of (Refused number) = number

abbrev pub is_taken : Outcome → Bool
is_taken (Taken left right) = true
is_taken (Refused number) = false

-- and its answers, the left one first, in a room of six bytes for each sample: a refused one writes none
abbrev pub answers_after : Outcome → ℕ → List ℕ → List ℕ
answers_after (Taken left right) index room = put_answer (put_answer room (index * 2) left) (index * 2 + 1) right
answers_after (Refused number) index room = room

-- what comes back of a sample, and the memories' words after it
pub record After : Type 0 where
  pub sampled : Sampled
  pub memory : Two (List ℕ)

-- refused: a number, and nothing moved
abbrev pub turned_away : ℕ → Halves → Two (List ℕ) → After
turned_away number h memory = record { sampled = record { outcome = Refused number; state = h }; memory = memory }

-- taken by both parts: what each gives by itself, side by side
abbrev pub joined : fifo.Sampled → fifo.Sampled → Sampled
joined left right = record {
  outcome = Taken (answer_in left.outcome) (answer_in right.outcome);
  state = record { left = left.state; right = right.state };
}

abbrev pub both : single.After → single.After → After
both left right = record { sampled = joined left.sampled right.sampled; memory = two left.memory right.memory }

-- two records, for a part number, memories and a state that have passed 1 to 3: by both parts' own steps, or by neither
unfoldable pub pair_stepped : Part → Two ℕ → Halves → Two (List ℕ) → After
pair_stepped part x h memory =
    cond (eqb (pair_refusal part x h) 0)
    (both (stepped part x.left h.left memory.left) (stepped part x.right h.right memory.right))
    (turned_away (pair_refusal part x h) h memory)

-- 1, 2 for either memory, 3, and then the records
unfoldable pub pair_sampled : ℕ → Two ℕ → Halves → Two (List ℕ) → After
pair_sampled number x h memory =
    by_part (part_of number)
    (λ part. cond (is_depth part (length memory.left) && is_depth part (length memory.right))
    (cond (passes_both part h) (pair_stepped part x h memory) (turned_away 3 h memory))
    (turned_away 2 h memory))
    (turned_away 1 h memory)

-- the first that applies of 1, 2 and 3, for memories of so many words, and then of the records'; 0 where none does
unfoldable pub pair_sample_refusal : ℕ → Two ℕ → Halves → Two ℕ → ℕ
pair_sample_refusal number x h words =
    by_part (part_of number)
    (λ part. cond (is_depth part words.left && is_depth part words.right) (cond (passes_both part h) (pair_refusal part x h) 3) 2)
    1

-- a result and memories that are those of a definition
pub record Gives (expected : After) (r : Sampled) (memory : Two (List ℕ)) : Type 0 where
  pub result : r ≡ expected.sampled
  pub words : memory ≡ expected.memory

pub record Steps (part : Part) (x : Two ℕ) (h : Halves) (memory : Two (List ℕ)) (r : Sampled) (after : Two (List ℕ)) : Type 0 where
  pub refusal : number_of r.outcome ≡ pair_refusal part x h
  pub gives : Gives (pair_stepped part x h memory) r after

pub record Samples (number : ℕ) (x : Two ℕ) (h : Halves) (memory : Two (List ℕ)) (r : Sampled) (after : Two (List ℕ)) : Type 0 where
  pub refusal : number_of r.outcome ≡ pair_sample_refusal number x h (two (length memory.left) (length memory.right))
  pub gives : Gives (pair_sampled number x h memory) r after
