-- What counts as an answer proved: two outcomes that meet the promise are the same in index, memory and answer room.
use Rattle.std.specs.Prelude.{ℕ, List, ◌≡◌}
use Rattle.notes.specs.Unique.{strict_unique}
use Rattle.run_c.specs.FromPowerUp.{RunsFromPowerUp}

pub from_power_up_unique : (number : ℕ) (bytes memory answers : List ℕ) (a b : ℕ) (m n k l : List ℕ)
    → RunsFromPowerUp number bytes memory answers a m k → RunsFromPowerUp number bytes memory answers b n l → (a ≡ b) × (m ≡ n) × (k ≡ l)
from_power_up_unique number bytes memory answers a b m n k l = strict_unique
