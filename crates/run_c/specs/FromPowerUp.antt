-- A strict run that begins at power-up, and the index at which it ended.
use Rattle.std.specs.Prelude.{ℕ, false, List, []}
use Rattle.chip.specs.Reset.{powered_up}
use Rattle.notes.specs.Began.{index_of}
use Rattle.notes.specs.Fold.{EndsStrict, started}
use Rattle.runs.specs.Run.{Ended, run_of}

abbrev pub from_power_up : ℕ → List ℕ → List ℕ → List ℕ → Ended
from_power_up number bytes memory answers = run_of false number bytes (started powered_up memory answers [])

abbrev pub RunsFromPowerUp : ℕ → List ℕ → List ℕ → List ℕ → ℕ → List ℕ → List ℕ → Type 0
RunsFromPowerUp number bytes memory answers = EndsStrict index_of (from_power_up number bytes memory answers)
