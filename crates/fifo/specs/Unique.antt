-- What counts as an answer proved: two results that meet an operation's promise are the same, and so is every room lent.
use Rattle.std.specs.Prelude.{ℕ, List, ◌≡◌, Option}
use Rattle.std.proofs.Common.{sym, ◌∙◌}
use Rattle.chip.specs.declared.state.State.{State}
use Rattle.counts.specs.declared.part.Part.{Part}
use Rattle.refusal_kinds.specs.declared.Refusal.{Refusal}
use Rattle.refusal_kinds.specs.NumberLaws.{number_of_injective}
use Rattle.refusal_kinds.specs.Numbers.{number_of}
use Rattle.fifo.specs.declared.sample.Sampled as code
use Rattle.fifo.specs.Outcome.{Sampled, sampled_in_numbers}
use Rattle.fifo.specs.OutcomeLaws.{sampled_injective}
use Rattle.fifo.specs.Sample.{After, Gives, RefusesRecord, Samples, Steps}

pub record_refusal_unique : (part : Part) (x : ℕ) (s : State) (a b : Option Refusal) → RefusesRecord part x s (number_of a) → RefusesRecord part x s (number_of b)
    → a ≡ b
record_refusal_unique part x s a b e f = number_of_injective a b (e ∙ sym f)

pub gives_unique : {expected : After} {a b : code.Sampled} {m n : List ℕ} → Gives expected (sampled_in_numbers a) m
    → Gives expected (sampled_in_numbers b) n → (a ≡ b) × (m ≡ n)
gives_unique f g = (sampled_injective _ _ (f.result ∙ sym g.result), f.words ∙ sym g.words)

pub sample_unique : (number x : ℕ) (s : State) (memory : List ℕ) (a b : code.Sampled) (m n : List ℕ)
    → Samples number x s memory (sampled_in_numbers a) m → Samples number x s memory (sampled_in_numbers b) n → (a ≡ b) × (m ≡ n)
sample_unique number x s memory a b m n f g = (sampled_injective _ _ (f.gives.result ∙ sym g.gives.result), f.gives.words ∙ sym g.gives.words)

pub step_unique : (part : Part) (x : ℕ) (s : State) (memory : List ℕ) (a b : code.Sampled) (m n : List ℕ)
    → Steps part x s memory (sampled_in_numbers a) m → Steps part x s memory (sampled_in_numbers b) n → (a ≡ b) × (m ≡ n)
step_unique part x s memory a b m n f g = (sampled_injective _ _ (f.gives.result ∙ sym g.gives.result), f.gives.words ∙ sym g.gives.words)

-- and so are the numbers that a promise speaks of, whatever they are seen in
pub record_numbers_unique : (part : Part) (x : ℕ) (s : State) (a b : ℕ) → RefusesRecord part x s a → RefusesRecord part x s b → a ≡ b
record_numbers_unique part x s a b e f = e ∙ sym f

pub gives_numbers_unique : {expected : After} {a b : Sampled} {m n : List ℕ} → Gives expected a m → Gives expected b n → (a ≡ b) × (m ≡ n)
gives_numbers_unique f g = (f.result ∙ sym g.result, f.words ∙ sym g.words)

pub sample_numbers_unique : (number x : ℕ) (s : State) (memory : List ℕ) (a b : Sampled) (m n : List ℕ)
    → Samples number x s memory a m → Samples number x s memory b n → (a ≡ b) × (m ≡ n)
sample_numbers_unique number x s memory a b m n f g = (f.gives.result ∙ sym g.gives.result, f.gives.words ∙ sym g.gives.words)

pub step_numbers_unique : (part : Part) (x : ℕ) (s : State) (memory : List ℕ) (a b : Sampled) (m n : List ℕ)
    → Steps part x s memory a m → Steps part x s memory b n → (a ≡ b) × (m ≡ n)
step_numbers_unique part x s memory a b m n f g = (f.gives.result ∙ sym g.gives.result, f.gives.words ∙ sym g.gives.words)
