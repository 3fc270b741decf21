-- Bench figures, the trace programs: the part number in the first two bytes of their input, and the number of parts in the third.
use Rattle.std.specs.Prelude.{ℕ, ◌+◌, ◌*◌, cond, List, ltb, get_or, length}

-- two bytes, the first of most weight; a head that is cut short gives 0, which names no part
unfoldable pub number_of : List ℕ → ℕ
number_of header = cond (ltb (length header) 2) 0 (get_or header 0 0 * 256 + get_or header 1 0)

-- one byte; where it is missing there is no part
unfoldable pub parts_of : List ℕ → ℕ
parts_of header = cond (ltb (length header) 1) 0 (get_or header 0 0)
