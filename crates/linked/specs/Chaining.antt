-- Order 4: parts in a row as the chain works them, sample by sample through its own definition of one sample, with an onlooker beside each part.
-- Parts are counted from 0.
use Rattle.std.specs.Prelude.{ℕ, zero, suc, ◌^◌, ◌<◌, Bool, cond, List, [], ◌∷◌, ◌++◌}
use Rattle.rows.specs.declared.row.Row.{Row}
use Rattle.rows.specs.Row.{empty_row}
use Rattle.rows.specs.Step.{After, chain_stepped, state_of, wired_to}
use Rattle.counts.specs.declared.part.Part.{Part}
use Rattle.fifo.specs.Sample.{is_taken}
use Rattle.links.specs.declared.record.Links.{Links}
use Rattle.pins.specs.Laws.{record_of}
use Rattle.history.specs.Onlooker.{Notes, Shown, blank, noted}
use Rattle.history.specs.Trace.{Moment, at, shown_by}
use Rattle.linked.specs.OwnWords.{own_words}
use Rattle.linked.specs.Taken.{inside, taken_after}

-- the list of part states, the memories one after the other, and of each part what its onlooker notes and the words taken from it
pub record Chain : Type 0 where
  pub row : Row
  pub memory : List ℕ
  pub notes : ℕ → Notes
  pub taken : ℕ → List ℕ

-- so many parts, with any words in their memories
unfoldable pub powered_row : ℕ → List ℕ → Chain
powered_row n memory = record { row = empty_row n; memory = memory; notes = λ i. blank; taken = λ i. [] }

module _ (part : Part) where
  -- part i as the single part: its state, its own words, and its onlooker's notes
  unfoldable pub moment_of : Chain → ℕ → Moment
  moment_of c i = at (state_of c.row i) (own_words part c.memory i) (c.notes i)

  -- what the onlooker sees of it
  abbrev pub seen_at : Row → ℕ → Shown
  seen_at row i = shown_by part (state_of row i)

  -- one sample, as the chain works it behind 1, 13, 2 and 3
  unfoldable pub chain_outcome : Chain → Links → After
  chain_outcome c x = chain_stepped part x c.row c.memory

  unfoldable pub chain_takes : Chain → Links → Bool
  chain_takes c x = is_taken (chain_outcome c x).outcome

  -- where a sample leads; a refused one is none to the onlookers, each of whom goes by the pins of his own part
  abbrev pub moved_all : Chain → Links → After → Chain
  moved_all c x a = record {
    row = a.row;
    memory = a.memory;
    notes = λ i. cond (is_taken a.outcome) (noted (c.notes i) (wired_to part x c.row i) (seen_at c.row i) (seen_at a.row i)) (c.notes i);
    taken = λ i. cond (is_taken a.outcome) (taken_after (c.notes i) (wired_to part x c.row i) (seen_at c.row i) (c.taken i)) (c.taken i);
  }

  unfoldable pub chain_next : Chain → Links → Chain
  chain_next c x = moved_all c x (chain_outcome c x)

  -- what a list of samples leads to
  unfoldable pub chain_led : Chain → List Links → Chain
  chain_led c [] = c
  chain_led c (x ∷ xs) = chain_led (chain_next c x) xs

  -- the records that are wired to part i in the samples that the chain takes
  unfoldable pub records_of : ℕ → Chain → List Links → List ℕ
  records_of i c [] = []
  records_of i c (x ∷ xs) =
      cond (chain_takes c x) (record_of (wired_to part x c.row i) ∷ records_of i (chain_next c x) xs) (records_of i (chain_next c x) xs)

  -- what is inside the parts from part k back to the first: of each its untaken output word, if there is one, and its memory from the read place on
  unfoldable pub inside_from : Chain → ℕ → List ℕ
  inside_from c zero = inside part (moment_of c 0)
  inside_from c (suc k) = inside part (moment_of c (suc k)) ++ inside_from c k

-- D of each sample has 18 bits, as a record's has
abbrev pub Narrow : List Links → Type 0
Narrow [] = Unit {0}
Narrow (x ∷ xs) = (x.pins.d < 2 ^ 18) × Narrow xs
