-- Bench figures, the pair's trace program: which digit a level is.
use Rattle.std.specs.Prelude.{◌≡◌, true, false, refl}
use Rattle.lines.specs.Flags.{digit_of}

-- the codes of 1 and 0
pub high_is_one : digit_of true ≡ 49
high_is_one = refl

pub low_is_zero : digit_of false ≡ 48
low_is_zero = refl
