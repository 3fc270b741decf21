-- Bench figures, the pair's trace program: flags as digits, two for each record of a chunk.
use Rattle.std.specs.Prelude.{ℕ, ◌+◌, ◌*◌, Bool, cond, List, slice_set}

-- the ASCII code of 1 for HIGH, of 0 for LOW
abbrev pub digit_of : Bool → ℕ
digit_of flag = cond flag 49 48

unfoldable pub noted : List ℕ → ℕ → Bool → Bool → List ℕ
noted flags i first second = slice_set (slice_set flags (i * 2) (digit_of first)) (i * 2 + 1) (digit_of second)
