-- Bench figures, the C call: one sample on a part number and byte buffers.
use Rattle.std.specs.Prelude.{ℕ, cond, List, ◌≡◌, eqb, length}
use Rattle.buffers.specs.Verdict.{Refuse, Verdict, Work}
use Rattle.buffers.specs.Memory.{memory_bytes}
use Rattle.buffers.specs.Verdict.{judged}
use Rattle.chip.specs.Reset.{powered_up}
use Rattle.counts.specs.Part.{by_part, part_of}
use Rattle.call_work.specs.Work.{Called, Gives, turned_away, worked}
use Rattle.spelling.specs.Spelling.{spelling, state_bytes}

-- what a part number asks for, 0 where it is no part's
abbrev pub memory_for : ℕ → ℕ
memory_for number = by_part (part_of number) memory_bytes 0

abbrev pub by_verdict : Verdict → List ℕ → List ℕ → List ℕ → Called
by_verdict (Work part x) state memory answer = worked part x state memory answer
by_verdict (Refuse number) state memory answer = turned_away number state memory answer

unfoldable pub called : ℕ → List ℕ → List ℕ → List ℕ → List ℕ → Called
called number bytes state memory answer = by_verdict (judged number bytes state (length memory) (length answer)) state memory answer

-- what comes back of powering up, and the state's bytes after it
pub record Powered : Type 0 where
  pub code : ℕ
  pub state : List ℕ

unfoldable pub powered : List ℕ → Powered
powered state =
    cond (eqb (length state) state_bytes) (record { code = 0; state = spelling powered_up }) (record { code = 2; state = state })

-- the promises of the exported functions
abbrev pub GivesStateBytes : ℕ → Type 0
GivesStateBytes r = r ≡ state_bytes

abbrev pub GivesMemoryBytes : ℕ → ℕ → Type 0
GivesMemoryBytes number r = r ≡ memory_for number

pub record PowersUp (state : List ℕ) (r : ℕ) (state' : List ℕ) : Type 0 where
  pub result : r ≡ (powered state).code
  pub spelled : state' ≡ (powered state).state

abbrev pub Calls : ℕ → List ℕ → List ℕ → List ℕ → List ℕ → ℕ → List ℕ → List ℕ → List ℕ → Type 0
Calls number bytes state memory answer r state' memory' answer' = Gives (called number bytes state memory answer) r state' memory' answer'
