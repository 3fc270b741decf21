-- Bench figures, the trace program: the digits of its lines.
use Rattle.std.specs.Prelude.{ℕ, ◌+◌, ◌/◌, ◌%◌, cond, List, ◌≡◌, ltb, set}
use Rattle.io.specs.Digits.{IsDigitCount, last_digits}
use Rattle.text.specs.Bytes.{put_text}

-- the ASCII code of a digit below 16, in capitals
abbrev pub hex_digit : ℕ → ℕ
hex_digit value = cond (ltb value 10) (48 + value) (55 + value)

unfoldable pub put_hex : List ℕ → ℕ → ℕ → List ℕ
put_hex room at byte = set (set room at (hex_digit (byte / 16))) (at + 1) (hex_digit (byte % 16))

-- the decimal digits of a value, and no more of them than it takes, up to the place `end`
pub record PutsDecimal (room : List ℕ) (at value : ℕ) (room' : List ℕ) (end : ℕ) : Type 0 where
  pub count : ℕ
  pub fewest : IsDigitCount 10 1 value count
  pub after : end ≡ at + count
  pub written : room' ≡ put_text room at (last_digits 10 count value)
