-- Order 4: one sample on a record of seven bytes.
use Rattle.std.specs.Prelude.{ℕ, true, cond, List, ◌≡◌, eqb, length}
use Rattle.rows.specs.declared.row.Row.{Row}
use Rattle.chain_work.specs.Records.{links_at}
use Rattle.rows.specs.Step.{After, chain_stepped, turned_away}
use Rattle.fifo.specs.Outcome.{Outcome, Refused, Taken}
use Rattle.chain_runs.specs.Outcome.{Worked}
use Rattle.chain_runs.specs.Test.{by_test, test_of}

-- what a number, 0 for none, and an answer stand for
abbrev pub outcome_by : ℕ → ℕ → Outcome
outcome_by number answer = cond (eqb number 0) (Taken answer) (Refused number)

-- 1, 13, 2, 3, then 4 for another length, and then the record
unfoldable pub row_sampled : ℕ → List ℕ → Row → List ℕ → After
row_sampled number bytes row memory =
    by_test (test_of number row (length memory) true)
    (λ part. cond (eqb (length bytes) 7) (chain_stepped part (links_at bytes 0) row memory) (turned_away 4 row memory))
    (λ refused. turned_away refused row memory)

pub record Gives (a : After) (r : Worked) (memory : List ℕ) : Type 0 where
  pub outcome : r.outcome ≡ a.outcome
  pub row : r.row ≡ a.row
  pub words : memory ≡ a.memory

abbrev pub SamplesRow : ℕ → List ℕ → Row → List ℕ → Worked → List ℕ → Type 0
SamplesRow number bytes row memory = Gives (row_sampled number bytes row memory)
