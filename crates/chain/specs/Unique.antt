-- What counts as an answer proved, of parts in a row: two results that meet an operation's promise are the same, and so are every state and
-- every room lent.
use Rattle.std.specs.Prelude.{ℕ, Bool, List, ◌≡◌, Result}
use Rattle.std.proofs.Common.{sym, ◌∙◌}
use Rattle.chain_runs.specs.declared.run.Report.{Report}
use Rattle.chip.specs.declared.state.State.{State}
use Rattle.fifo.specs.Outcome.{Outcome, in_numbers}
use Rattle.fifo.specs.OutcomeLaws.{in_numbers_injective}
use Rattle.refusal_kinds.specs.declared.Refusal.{Refusal}
use Rattle.chain.specs.Chain.{Runs, Samples}

pub sample_unique : (number : ℕ) (bytes : List ℕ) (states : List State) (memory : List ℕ) (a b : Result ℕ Refusal) (s t : List State) (m n : List ℕ)
    → Samples number bytes states memory (in_numbers a) s m → Samples number bytes states memory (in_numbers b) t n → (a ≡ b) × (s ≡ t) × (m ≡ n)
sample_unique number bytes states memory a b s t m n f g =
    (in_numbers_injective a b (f.result ∙ sym g.result), f.parts ∙ sym g.parts, f.words ∙ sym g.words)

-- and so are the numbers that the promise speaks of, whatever they are seen in
pub sample_numbers_unique : (number : ℕ) (bytes : List ℕ) (states : List State) (memory : List ℕ) (a b : Outcome) (s t : List State) (m n : List ℕ)
    → Samples number bytes states memory a s m → Samples number bytes states memory b t n → (a ≡ b) × (s ≡ t) × (m ≡ n)
sample_numbers_unique number bytes states memory a b s t m n f g =
    (f.result ∙ sym g.result, f.parts ∙ sym g.parts, f.words ∙ sym g.words)

pub run_unique : (lenient : Bool) (number : ℕ) (bytes : List ℕ) (states : List State) (memory answers marks : List ℕ) (a b : Report)
    (s t : List State) (m n k l i j : List ℕ) → Runs lenient number bytes states memory answers marks a s m k i
    → Runs lenient number bytes states memory answers marks b t n l j → (a ≡ b) × (s ≡ t) × (m ≡ n) × (k ≡ l) × (i ≡ j)
run_unique lenient number bytes states memory answers marks a b s t m n k l i j f g = (
  f.result ∙ sym g.result,
  f.parts ∙ sym g.parts,
  f.words ∙ sym g.words,
  f.room ∙ sym g.room,
  f.marked ∙ sym g.marked,
)
