-- Order 4, on bytes: the records of a chain's trace, seven bytes each.
use Rattle.std.specs.Prelude.{ℕ, ◌+◌, ◌*◌, ◌/◌, List, ◌≡◌, get_or, length}
use Rattle.links.specs.declared.record.Links.{Links}
use Rattle.links.specs.Record.{links_of}
use Rattle.pins.specs.Trace.{items_from, joined, number_at, standing, word_at}
use Rattle.chain_work.specs.declared.records.Record.{Record}
use Rattle.chain_work.specs.declared.records.Record.TheVariants.{Whole, Leftover, End}

-- the three bytes after a part's record
abbrev pub more_at : List ℕ → ℕ → ℕ
more_at trace at = joined 0 (get_or trace (at + 4) 0) (get_or trace (at + 5) 0) (get_or trace (at + 6) 0)

abbrev pub links_at : List ℕ → ℕ → Links
links_at trace index = links_of (word_at trace (index * 7)) (more_at trace (index * 7))

abbrev pub whole_records : List ℕ → ℕ
whole_records trace = length trace / 7

unfoldable pub record_at : List ℕ → ℕ → Record
record_at trace index = standing 7 (length trace) index (Whole (word_at trace (index * 7)) (more_at trace (index * 7))) Leftover End

-- the number under which a run that finds this goes no further, 0 where nothing is wrong
abbrev pub number_of : Record → ℕ
number_of (Whole head more) = 0
number_of Leftover = 4
number_of End = 0

pub record Reads (trace : List ℕ) (index : ℕ) (r : Record) : Type 0 where
  pub number : number_of r ≡ number_at 7 (length trace) index
  pub result : r ≡ record_at trace index

-- so many records from an index on
abbrev pub records_from : List ℕ → ℕ → ℕ → List Links
records_from trace index many = items_from (links_at trace) index many
