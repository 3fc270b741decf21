-- A strict run of two parts side by side that begins at power-up, and the index at which it ended.
use Rattle.std.specs.Prelude.{ℕ, false, List, []}
use Rattle.halves.specs.State.{powered_up_both}
use Rattle.halves.specs.Two.{Two}
use Rattle.notes.specs.Began.{index_of}
use Rattle.notes.specs.Fold.{EndsStrict, started}
use Rattle.pair_runs.specs.Run.{run_of}
use Rattle.pair_work.specs.Work.{Ended}

abbrev pub from_power_up : ℕ → List ℕ → Two (List ℕ) → List ℕ → Ended
from_power_up number bytes memory answers = run_of false number bytes (started powered_up_both memory answers [])

abbrev pub RunsFromPowerUp : ℕ → List ℕ → Two (List ℕ) → List ℕ → ℕ → Two (List ℕ) → List ℕ → Type 0
RunsFromPowerUp number bytes memory answers = EndsStrict index_of (from_power_up number bytes memory answers)
