-- What counts as an answer proved: two outcomes that meet the promise are the same in index, memories and answer room.
use Rattle.std.specs.Prelude.{ℕ, List, ◌≡◌}
use Rattle.halves.specs.Two.{Two}
use Rattle.notes.specs.Unique.{strict_unique}
use Rattle.pair_c.specs.FromPowerUp.{RunsFromPowerUp}

pub from_power_up_unique : (number : ℕ) (bytes : List ℕ) (memory : Two (List ℕ)) (answers : List ℕ) (a b : ℕ) (m n : Two (List ℕ)) (k l : List ℕ)
    → RunsFromPowerUp number bytes memory answers a m k → RunsFromPowerUp number bytes memory answers b n l → (a ≡ b) × (m ≡ n) × (k ≡ l)
from_power_up_unique number bytes memory answers a b m n k l = strict_unique
