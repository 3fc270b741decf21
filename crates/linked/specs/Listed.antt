-- Order 4, by the public operations: the list of part states and the memories that a caller holds, and where calls lead them, one after the other.
use Rattle.std.specs.Prelude.{ℕ, ◌≤◌, ◌<◌, Bool, cond, List, [], ◌∷◌, ◌++◌, ◌≡◌, eqb, length, replicate, take}
use Rattle.chain.specs.Chain.{ran, sampled}
use Rattle.chain_work.specs.Records.{links_at, records_from, whole_records}
use Rattle.rows.specs.Row.{put_back, row_of}
use Rattle.rows.specs.Step.{After, state_of}
use Rattle.chain_work.specs.Work.{Ended}
use Rattle.chip.specs.declared.state.State.{State}
use Rattle.chip.specs.Reset.{powered_up}
use Rattle.counts.specs.declared.part.Part.{Part}
use Rattle.counts.specs.Part.{number_of}
use Rattle.links.specs.declared.record.Links.{Links}
use Rattle.linked.specs.Chaining.{Chain}
use Rattle.linked.specs.Linked.{Linked}

-- what a caller holds
pub record Parts : Type 0 where
  pub states : List State
  pub memory : List ℕ

-- so many parts, each as at power-up, with any words in their memories
unfoldable pub powered_parts : ℕ → List ℕ → Parts
powered_parts n memory = record { states = replicate n powered_up; memory = memory }

-- one sample on any bytes; or a run over any bytes, strict or lenient, with the rooms lent for answers and marks
pub data Call : Type 0 where
  OneSample : List ℕ → Call
  OneRun : Bool → List ℕ → List ℕ → List ℕ → Call

module _ (part : Part) where
  -- what comes of each
  unfoldable pub sample_of : Parts → List ℕ → After
  sample_of l bytes = sampled (number_of part) bytes l.states l.memory

  unfoldable pub run_over : Parts → Bool → List ℕ → List ℕ → List ℕ → Ended
  run_over l lenient bytes answers marks = ran lenient (number_of part) bytes l.states l.memory answers marks

  -- what each leaves: the row put back in the list, and the words
  abbrev pub called : Parts → Call → Parts
  called l (OneSample bytes) = record { states = put_back (sample_of l bytes).row l.states; memory = (sample_of l bytes).memory }
  called l (OneRun lenient bytes answers marks) =
      let end = (run_over l lenient bytes answers marks).progress in
      record { states = put_back end.state l.states; memory = end.memory }

  -- the records that a call works: that of a sample on seven bytes, and those of a run up to the index at which it ended
  abbrev pub worked_in : Parts → Call → List Links
  worked_in l (OneSample bytes) = cond (eqb (length bytes) 7) (links_at bytes 0 ∷ []) []
  worked_in l (OneRun lenient bytes answers marks) = take (run_over l lenient bytes answers marks).index (records_from bytes 0 (whole_records bytes))

  -- calls one after the other
  unfoldable pub called_all : Parts → List Call → Parts
  called_all l [] = l
  called_all l (call ∷ more) = called_all (called l call) more

  unfoldable pub worked_all : Parts → List Call → List Links
  worked_all l [] = []
  worked_all l (call ∷ more) = worked_in l call ++ worked_all (called l call) more

-- the records of samples, of those that have seven bytes
unfoldable pub whole_of : List (List ℕ) → List Links
whole_of [] = []
whole_of (bytes ∷ more) = cond (eqb (length bytes) 7) (links_at bytes 0 ∷ whole_of more) (whole_of more)

-- a list of two to eight parts that is worked as the row of a chain, in which nothing stands past them
pub record Listed (part : Part) (n : ℕ) (l : Parts) (c : Chain) : Type 0 where
  pub several : 2 ≤ n
  pub linked : Linked part n c
  pub past : (i : ℕ) → n ≤ i → i < 8 → state_of c.row i ≡ powered_up
  pub many : length l.states ≡ n
  pub row : row_of l.states ≡ c.row
  pub words : l.memory ≡ c.memory
