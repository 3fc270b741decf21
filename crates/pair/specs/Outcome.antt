-- What a sample of two parts gives, in the table's words: taken with both packed answers, or refused with its number.
use Rattle.std.specs.Prelude.{ℕ, Result, Ok, Err}
use Rattle.halves.specs.declared.state.Halves.{Halves}
use Rattle.refusal_kinds.specs.declared.Refusal.{Refusal}
use Rattle.refusal_kinds.specs.Numbers.{number}
use Rattle.pair.specs.declared.sample.Sampled as code

pub data Outcome : Type 0 where
  Taken : ℕ → ℕ → Outcome
  Refused : ℕ → Outcome

abbrev pub in_numbers : Result (ℕ × ℕ) Refusal → Outcome
in_numbers (Ok answers) = Taken answers.0 answers.1
in_numbers (Err refusal) = Refused (number refusal)

-- and the state that comes with it
pub record Sampled : Type 0 where
  pub outcome : Outcome
  pub state : Halves

abbrev pub sampled_in_numbers : code.Sampled → Sampled
sampled_in_numbers r = record { outcome = in_numbers r.outcome; state = r.state }
