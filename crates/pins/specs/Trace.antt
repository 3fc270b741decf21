-- Trace sample, on bytes: the records of a trace.
use Rattle.std.specs.Prelude.{ℕ, zero, suc, ◌+◌, ◌*◌, ◌/◌, ◌%◌, ◌^◌, cond, ◌||◌, List, [], ◌∷◌, ◌≡◌, eqb, ltb, get_or, length}
use Rattle.pins.specs.Record.{unsettled_in}
use Rattle.pins.specs.declared.trace.Record.{Record}
use Rattle.pins.specs.declared.trace.Record.TheVariants.{Whole, Leftover, End}

-- four bytes, the first of most weight
abbrev pub joined : ℕ → ℕ → ℕ → ℕ → ℕ
joined first second third fourth = first * 2 ^ 24 + second * 2 ^ 16 + third * 2 ^ 8 + fourth

unfoldable pub word_at : List ℕ → ℕ → ℕ
word_at trace at = joined (get_or trace at 0) (get_or trace (at + 1) 0) (get_or trace (at + 2) 0) (get_or trace (at + 3) 0)

abbrev pub whole_records : List ℕ → ℕ
whole_records trace = length trace / 4

-- what stands at an index of so many bytes, by the size of an item: a whole one, the bytes left over, or nothing more
abbrev pub standing : {A : Type 0} → ℕ → ℕ → ℕ → A → A → A → A
standing size bytes index whole leftover end = cond (ltb index (bytes / size)) whole (cond (eqb (bytes % size) 0) end leftover)

-- a record, and its mark beside it
abbrev pub marked : ℕ → Record
marked x = Whole x (unsettled_in x)

unfoldable pub record_at : List ℕ → ℕ → Record
record_at trace index = standing 4 (length trace) index (marked (word_at trace (index * 4))) Leftover End

-- the number under which a run that finds this goes no further, 0 where nothing is wrong
abbrev pub number_of : Record → ℕ
number_of (Whole word unsettled) = 0
number_of Leftover = 4
number_of End = 0

-- 4 past the whole items of so many bytes, where some are left over
abbrev pub number_at : ℕ → ℕ → ℕ → ℕ
number_at size bytes index = cond (ltb index (bytes / size) || eqb (bytes % size) 0) 0 4

abbrev pub record_number : List ℕ → ℕ → ℕ
record_number trace index = number_at 4 (length trace) index

pub record Reads (trace : List ℕ) (index : ℕ) (r : Record) : Type 0 where
  pub number : number_of r ≡ record_number trace index
  pub result : r ≡ record_at trace index

-- so many items from an index on, by what stands at each
unfoldable pub items_from : {A : Type 0} → (ℕ → A) → ℕ → ℕ → List A
items_from item index zero = []
items_from item index (suc many) = item index ∷ items_from item (index + 1) many

abbrev pub records_from : List ℕ → ℕ → ℕ → List ℕ
records_from trace index many = items_from (λ at. word_at trace (at * 4)) index many
