-- What a sample gives, in the table's words: taken with its packed answer, or refused with its number.
use Rattle.std.specs.Prelude.{ℕ, Result, Ok, Err}
use Rattle.chip.specs.declared.state.State.{State}
use Rattle.refusal_kinds.specs.declared.Refusal.{Refusal}
use Rattle.refusal_kinds.specs.Numbers.{number}
use Rattle.fifo.specs.declared.sample.Sampled as code

pub data Outcome : Type 0 where
  Taken : ℕ → Outcome
  Refused : ℕ → Outcome

-- whatever a refusal is told as
abbrev pub seen : {A : Type 0} → (A → ℕ) → Result ℕ A → Outcome
seen told (Ok answer) = Taken answer
seen told (Err refusal) = Refused (told refusal)

abbrev pub in_numbers : Result ℕ Refusal → Outcome
in_numbers = seen number

-- and the state that comes with it
pub record Sampled : Type 0 where
  pub outcome : Outcome
  pub state : State

abbrev pub sampled_in_numbers : code.Sampled → Sampled
sampled_in_numbers r = record { outcome = in_numbers r.outcome; state = r.state }
