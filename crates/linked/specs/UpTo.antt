-- What holds of the first j parts and of the next holds of the first j + 1.
use Rattle.std.specs.Prelude.{ℕ, suc, ◌<◌, ◌≡◌}
use Rattle.std.proofs.Math.Decide.{dec_lt}
use Rattle.std.proofs.Common.{arith}

pub up_to : (P : ℕ → Type 0) (j : ℕ) → ((i : ℕ) → i < j → P i) → P j → (i : ℕ) → i < suc j → P i
up_to P j before next i l = go (dec_lt i j)
  where
    go : Dec (i < j) → P i
    go (yes earlier) = before i earlier
    go (no later) = let same : i ≡ j = omega arith in rw same next
