-- What a sample of a row gives, in the table's words.
use Rattle.fifo.specs.Outcome.{Outcome, in_numbers}
use Rattle.rows.specs.declared.row.Row.{Row}
use Rattle.chain_runs.specs.declared.sample.Worked as code

pub record Worked : Type 0 where
  pub outcome : Outcome
  pub row : Row

abbrev pub worked_in_numbers : code.Worked → Worked
worked_in_numbers r = record { outcome = in_numbers r.outcome; row = r.row }
