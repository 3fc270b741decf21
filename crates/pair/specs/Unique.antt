-- What counts as an answer proved, of two parts side by side: two results that meet an operation's promise are the same, and so is every room
-- lent.
use Rattle.std.specs.Prelude.{ℕ, List, ◌≡◌, length}
use Rattle.std.proofs.Common.{sym, ◌∙◌}
use Rattle.counts.specs.declared.part.Part.{Part}
use Rattle.pair.specs.declared.sample.Sampled as code
use Rattle.pair.specs.Outcome.{Sampled, sampled_in_numbers}
use Rattle.pair.specs.OutcomeLaws.{sampled_injective}
use Rattle.halves.specs.declared.state.Halves.{Halves}
use Rattle.pair.specs.Sample.{After, Gives, Samples, Steps, number_of, pair_sample_refusal, pair_sampled}
use Rattle.halves.specs.Two.{Two, two}

pub gives_unique : {expected : After} {a b : code.Sampled} {m n : Two (List ℕ)} → Gives expected (sampled_in_numbers a) m
    → Gives expected (sampled_in_numbers b) n → (a ≡ b) × (m ≡ n)
gives_unique f g = (sampled_injective _ _ (f.result ∙ sym g.result), f.words ∙ sym g.words)

pub sample_unique : (number : ℕ) (x : Two ℕ) (h : Halves) (memory : Two (List ℕ)) (a b : code.Sampled) (m n : Two (List ℕ))
    → Samples number x h memory (sampled_in_numbers a) m → Samples number x h memory (sampled_in_numbers b) n → (a ≡ b) × (m ≡ n)
sample_unique number x h memory a b m n f g = (sampled_injective _ _ (f.gives.result ∙ sym g.gives.result), f.gives.words ∙ sym g.gives.words)

-- and it is what the definitions say of these very records, halves and memories
pub sample_told : (number : ℕ) (x : Two ℕ) (h : Halves) (memory : Two (List ℕ)) (r : Sampled) (after : Two (List ℕ)) → Samples number x h memory r after
    → (number_of r.outcome ≡ pair_sample_refusal number x h (two (length memory.left) (length memory.right)))
    × (r ≡ (pair_sampled number x h memory).sampled) × (after ≡ (pair_sampled number x h memory).memory)
sample_told number x h memory r after s = (s.refusal, s.gives.result, s.gives.words)

pub step_unique : (part : Part) (x : Two ℕ) (h : Halves) (memory : Two (List ℕ)) (a b : code.Sampled) (m n : Two (List ℕ))
    → Steps part x h memory (sampled_in_numbers a) m → Steps part x h memory (sampled_in_numbers b) n → (a ≡ b) × (m ≡ n)
step_unique part x h memory a b m n f g = (sampled_injective _ _ (f.gives.result ∙ sym g.gives.result), f.gives.words ∙ sym g.gives.words)

-- and so are the numbers that a promise speaks of, whatever they are seen in
pub gives_numbers_unique : {expected : After} {a b : Sampled} {m n : Two (List ℕ)} → Gives expected a m → Gives expected b n → (a ≡ b) × (m ≡ n)
gives_numbers_unique f g = (f.result ∙ sym g.result, f.words ∙ sym g.words)

pub sample_numbers_unique : (number : ℕ) (x : Two ℕ) (h : Halves) (memory : Two (List ℕ)) (a b : Sampled) (m n : Two (List ℕ))
    → Samples number x h memory a m → Samples number x h memory b n → (a ≡ b) × (m ≡ n)
sample_numbers_unique number x h memory a b m n f g = (f.gives.result ∙ sym g.gives.result, f.gives.words ∙ sym g.gives.words)

pub step_numbers_unique : (part : Part) (x : Two ℕ) (h : Halves) (memory : Two (List ℕ)) (a b : Sampled) (m n : Two (List ℕ))
    → Steps part x h memory a m → Steps part x h memory b n → (a ≡ b) × (m ≡ n)
step_numbers_unique part x h memory a b m n f g = (f.gives.result ∙ sym g.gives.result, f.gives.words ∙ sym g.gives.words)
