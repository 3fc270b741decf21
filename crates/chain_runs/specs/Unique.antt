-- What counts as an answer proved, of a row of parts: two results that meet the promise of a sample or of a run are the same.
use Rattle.std.specs.Prelude.{ℕ, Bool, List, ◌≡◌}
use Rattle.std.proofs.Common.{sym, ◌∙◌}
use Rattle.fifo.specs.OutcomeLaws.{in_numbers_injective}
use Rattle.rows.specs.declared.row.Row.{Row}
use Rattle.chain_work.specs.declared.work.Ran.{Ran}
use Rattle.notes.specs.Unique as notes
use Rattle.chain_runs.specs.declared.sample.Worked as code
use Rattle.chain_runs.specs.Outcome.{Worked, worked_in_numbers}
use Rattle.chain_runs.specs.Run.{RunsRow}
use Rattle.chain_runs.specs.Sample.{SamplesRow}

pub sample_unique : (number : ℕ) (bytes : List ℕ) (row : Row) (memory : List ℕ) (a b : code.Worked) (m n : List ℕ)
    → SamplesRow number bytes row memory (worked_in_numbers a) m → SamplesRow number bytes row memory (worked_in_numbers b) n → (a ≡ b) × (m ≡ n)
sample_unique number bytes row memory a b m n e f =
    let outcome = in_numbers_injective a.outcome b.outcome (e.outcome ∙ sym f.outcome) in
    let after : a.row ≡ b.row = e.row ∙ sym f.row in
    ((λ i. record { outcome = outcome i; row = after i }), e.words ∙ sym f.words)

-- and so are the numbers that the promise speaks of, whatever they are seen in
pub sample_numbers_unique : (number : ℕ) (bytes : List ℕ) (row : Row) (memory : List ℕ) (a b : Worked) (m n : List ℕ)
    → SamplesRow number bytes row memory a m → SamplesRow number bytes row memory b n → (a ≡ b) × (m ≡ n)
sample_numbers_unique number bytes row memory a b m n e f =
    let outcome : a.outcome ≡ b.outcome = e.outcome ∙ sym f.outcome in
    let after : a.row ≡ b.row = e.row ∙ sym f.row in
    ((λ i. record { outcome = outcome i; row = after i }), e.words ∙ sym f.words)

pub run_unique : (lenient : Bool) (number : ℕ) (bytes : List ℕ) (row : Row) (memory answers marks : List ℕ) (a b : Ran) (m n k l i j : List ℕ)
    → RunsRow lenient number bytes row memory answers marks a m k i → RunsRow lenient number bytes row memory answers marks b n l j
    → (a ≡ b) × (m ≡ n) × (k ≡ l) × (i ≡ j)
run_unique lenient number bytes row memory answers marks a b m n k l i j = notes.ends_unique
