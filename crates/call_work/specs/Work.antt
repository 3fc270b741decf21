-- Bench figures, the C call: a record on bytes that spell a state, a memory and an answer room of their lengths.
use Rattle.std.specs.Prelude.{ℕ, Bool, cond, List, ◌≡◌, eqb}
use Rattle.buffers.specs.Memory.{fetched_from, stored_in}
use Rattle.chip.specs.declared.advance.Advanced.{Advanced}
use Rattle.chip.specs.declared.state.State.{State}
use Rattle.chip.specs.Advance.{advanced}
use Rattle.counts.specs.declared.part.Part.{Part}
use Rattle.fifo.specs.Sample.{record_refusal}
use Rattle.pins.specs.Answer.{put_answer}
use Rattle.pins.specs.Record.{pins_of}
use Rattle.spelling.specs.Spelling.{spelling, state_in}

-- what comes back of a call, and every byte of the three buffers after it
pub record Called : Type 0 where
  pub code : ℕ
  pub state : List ℕ
  pub memory : List ℕ
  pub answer : List ℕ

abbrev pub took : Advanced → List ℕ → List ℕ → Called
took a memory answer = record {
  code = 0;
  state = spelling a.state;
  memory = stored_in a.store memory;
  answer = put_answer answer 0 a.answer;
}

unfoldable pub taken : Part → ℕ → State → List ℕ → List ℕ → Called
taken part x s memory answer = took (advanced part (pins_of x) (fetched_from part s memory) s) memory answer

-- refused: a number, and no byte moved
abbrev pub turned_away : ℕ → List ℕ → List ℕ → List ℕ → Called
turned_away number state memory answer = record { code = number; state = state; memory = memory; answer = answer }

-- 5 to 10 and 12, or the record taken
abbrev pub decided : Bool → ℕ → Part → ℕ → List ℕ → List ℕ → List ℕ → Called
decided free number part x state memory answer = cond free (taken part x (state_in state) memory answer) (turned_away number state memory answer)

unfoldable pub worked : Part → ℕ → List ℕ → List ℕ → List ℕ → Called
worked part x state memory answer =
    let number = record_refusal part x (state_in state) in
    decided (eqb number 0) number part x state memory answer

-- a number and buffers that are those of a definition
pub record Gives (expected : Called) (r : ℕ) (state' memory' answer' : List ℕ) : Type 0 where
  pub result : r ≡ expected.code
  pub spelled : state' ≡ expected.state
  pub words : memory' ≡ expected.memory
  pub room : answer' ≡ expected.answer
