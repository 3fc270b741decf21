-- Bench figures, the C call: numbers in bytes. A word of a record or of the memory has the byte of most weight first.
use Rattle.std.specs.Prelude.{ℕ, ◌+◌, ◌*◌, ◌/◌, ◌%◌, ◌^◌, List, [], ◌∷◌, get_or, set}
use Rattle.pins.specs.Trace.{joined, records_from, whole_records}

abbrev pub byte_of : ℕ → ℕ → ℕ
byte_of place word = word / 2 ^ place % 2 ^ 8

abbrev pub low_byte : ℕ → ℕ
low_byte word = word % 2 ^ 8

-- four bytes that stand together
pub record Four : Type 0 where
  pub first : ℕ
  pub second : ℕ
  pub third : ℕ
  pub fourth : ℕ

-- put over those that stood there
unfoldable pub put_four : List ℕ → ℕ → Four → List ℕ
put_four bytes at four = set (set (set (set bytes at four.first) (at + 1) four.second) (at + 2) four.third) (at + 3) four.fourth

abbrev pub put_fours : ℕ → List Four → List ℕ → List ℕ
put_fours at [] bytes = bytes
put_fours at (four ∷ more) bytes = put_fours (at + 4) more (put_four bytes at four)

-- one after the other
abbrev pub in_order : List Four → List ℕ
in_order [] = []
in_order (four ∷ more) = four.first ∷ four.second ∷ four.third ∷ four.fourth ∷ in_order more

abbrev pub high_first : ℕ → Four
high_first word = record { first = byte_of 24 word; second = byte_of 16 word; third = byte_of 8 word; fourth = low_byte word }

unfoldable pub put_word : List ℕ → ℕ → ℕ → List ℕ
put_word bytes at word = put_four bytes at (high_first word)

-- numbers have their byte of least weight first, as the processors that this is built for keep them
abbrev pub pair : ℕ → ℕ → Four
pair first second = record { first = low_byte first; second = byte_of 8 first; third = low_byte second; fourth = byte_of 8 second }

abbrev pub low_first : ℕ → Four
low_first word = record { first = low_byte word; second = byte_of 8 word; third = byte_of 16 word; fourth = byte_of 24 word }

-- a number of 16 bits and one of 32, read from such bytes
unfoldable pub half_at : List ℕ → ℕ → ℕ
half_at bytes at = get_or bytes (at + 1) 0 * 2 ^ 8 + get_or bytes at 0

unfoldable pub low_first_at : List ℕ → ℕ → ℕ
low_first_at bytes at = joined (get_or bytes (at + 3) 0) (get_or bytes (at + 2) 0) (get_or bytes (at + 1) 0) (get_or bytes at 0)

-- the words of a memory that is handed in as bytes
abbrev pub words_in : List ℕ → List ℕ
words_in bytes = records_from bytes 0 (whole_records bytes)
