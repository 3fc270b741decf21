-- The state's bytes: bytes that spell a state have a digit below 3 for each of the write side's view, the setup and the mode.
use Rattle.std.specs.Prelude.{ℕ, ◌<◌, Bool, true, ◌&&◌, List, ◌≡◌, ltb, get_or}
use Rattle.std.proofs.Common.{ltb-true}
use Rattle.counts.specs.Both.{both}
use Rattle.spelling.specs.Spelling.{blank_elsewhere, four_levels, spelled_digits, spells}

-- a byte that is a digit of three
abbrev small : List ℕ → ℕ → Bool
small bytes i = ltb (get_or bytes i 0) 3

pub enums_small : (bytes : List ℕ) → spells bytes ≡ true → (get_or bytes 12 0 < 3) × (get_or bytes 13 0 < 3) × (get_or bytes 14 0 < 3)
unfolding spells spelled_digits
enums_small bytes e =
    let levels = four_levels bytes 0 && four_levels bytes 4 && four_levels bytes 8 && four_levels bytes 48 in
    let mode = both (levels && small bytes 12 && small bytes 13) (small bytes 14) (both (spelled_digits bytes) (blank_elsewhere bytes) e).0 in
    let setup = both (levels && small bytes 12) (small bytes 13) mode.0 in
    let view = both levels (small bytes 12) setup.0 in
    (ltb-true _ 3 view.1, ltb-true _ 3 setup.1, ltb-true _ 3 mode.1)
