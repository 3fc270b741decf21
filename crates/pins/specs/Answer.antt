-- Trace sample: the lines of the chip in an answer.
use Rattle.std.specs.Prelude.{ℕ, ◌+◌, ◌*◌, ◌/◌, ◌%◌, ◌^◌, Bool, cond, List, set}
use Rattle.pins.specs.declared.answer.Lines.{Lines}
use Rattle.pins.specs.Record.{at, word}

-- Q as it is given: zero where it is not driven
abbrev pub given : Bool → ℕ → ℕ
given driven q = cond driven (word q) 0

unfoldable pub packed : Lines → ℕ
packed l =
    at 23 l.ff + at 22 l.ef + at 21 l.hf + at 20 l.pae + at 19 l.paf + at 18 l.driven + given l.driven l.q

-- an answer in a room for answers, three bytes each, the first of most weight
unfoldable pub put_answer : List ℕ → ℕ → ℕ → List ℕ
put_answer room index answer =
    set (set (set room (index * 3) (answer / 2 ^ 16 % 2 ^ 8)) (index * 3 + 1) (answer / 2 ^ 8 % 2 ^ 8)) (index * 3 + 2) (answer % 2 ^ 8)
