-- A run from a state that is handed in as bytes.
use Rattle.std.specs.Prelude.{ℕ, Bool, true, false, cond, ◌&&◌, List, [], ◌∷◌, ◌≡◌, eqb, length}
use Rattle.runs.specs.declared.run.Ran.{Ran}
use Rattle.notes.specs.Fold.{started}
use Rattle.runs.specs.Run.{Ended, run_of}
use Rattle.spelling.specs.Spelling.{spelling, spells, state_bytes, state_in}

-- an index, and a number of records
abbrev pub ended_size : ℕ
ended_size = 2

-- rooms of their length, and bytes that spell a state
abbrev pub sound : List ℕ → ℕ → Bool
sound state ended = cond (eqb (length state) state_bytes && eqb ended ended_size) (spells state) false

-- what a call hands back
pub record Handed : Type 0 where
  pub code : ℕ
  pub state : List ℕ
  pub memory : List ℕ
  pub answers : List ℕ
  pub marks : List ℕ
  pub ended : List ℕ

abbrev pub handed_back : Ended → Handed
handed_back e = record {
  code = e.refusal;
  state = spelling e.progress.state;
  memory = e.progress.memory;
  answers = e.progress.answers;
  marks = e.progress.marks;
  ended = e.index ∷ e.progress.accepted ∷ [];
}

unfoldable pub ran_handed : Bool → ℕ → List ℕ → List ℕ → List ℕ → List ℕ → List ℕ → List ℕ → Handed
ran_handed lenient number bytes state memory answers marks ended =
    cond (sound state (length ended)) (handed_back (run_of lenient number bytes (started (state_in state) memory answers marks)))
    (record { code = 3; state = state; memory = memory; answers = answers; marks = marks; ended = ended })

pub record HandsBack (ran : Ran) (state ended : List ℕ) : Type 0 where
  pub spelled : state ≡ spelling ran.state
  pub told : ended ≡ ran.index ∷ ran.accepted ∷ []

-- number, rooms and state that are those of a definition
pub record Hands (expected : Handed) (r : ℕ) (state memory answers ended : List ℕ) : Type 0 where
  pub result : r ≡ expected.code
  pub spelled : state ≡ expected.state
  pub words : memory ≡ expected.memory
  pub room : answers ≡ expected.answers
  pub told : ended ≡ expected.ended

-- a strict run, which has no marks
abbrev pub RunsStrict : ℕ → List ℕ → List ℕ → List ℕ → List ℕ → List ℕ → ℕ → List ℕ → List ℕ → List ℕ → List ℕ → Type 0
RunsStrict number bytes state memory answers ended r state' memory' answers' ended' =
    Hands (ran_handed false number bytes state memory answers [] ended) r state' memory' answers' ended'

pub record RunsLenient (number : ℕ) (bytes state memory answers marks ended : List ℕ) (r : ℕ)
    (state' memory' answers' marks' ended' : List ℕ) : Type 0 where
  pub hands : Hands (ran_handed true number bytes state memory answers marks ended) r state' memory' answers' ended'
  pub marked : marks' ≡ (ran_handed true number bytes state memory answers marks ended).marks
