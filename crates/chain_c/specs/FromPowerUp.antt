-- A strict run of parts in a row that begins at power-up, and the index at which it ended.
use Rattle.std.specs.Prelude.{ℕ, false, List, []}
use Rattle.chain_runs.specs.Run.{run_of}
use Rattle.rows.specs.Row.{empty_row}
use Rattle.chain_work.specs.Work.{Ended}
use Rattle.notes.specs.Began.{index_of}
use Rattle.notes.specs.Fold.{EndsStrict, started}

abbrev pub from_power_up : ℕ → ℕ → List ℕ → List ℕ → List ℕ → Ended
from_power_up number count bytes memory answers = run_of false number bytes (started (empty_row count) memory answers [])

abbrev pub RunsFromPowerUp : ℕ → ℕ → List ℕ → List ℕ → List ℕ → ℕ → List ℕ → List ℕ → Type 0
RunsFromPowerUp number count bytes memory answers = EndsStrict index_of (from_power_up number count bytes memory answers)
