-- Two parts side by side, on bytes: the samples of a trace.
use Rattle.std.specs.Prelude.{ℕ, ◌+◌, ◌*◌, ◌/◌, List, ◌≡◌, length}
use Rattle.halves.specs.Two.{Two, two}
use Rattle.pins.specs.Trace.{items_from, number_at, standing, word_at}
use Rattle.pair_work.specs.declared.samples.Sample.{Sample}
use Rattle.pair_work.specs.declared.samples.Sample.TheVariants.{Whole, Leftover, End}

-- eight bytes, the left record and then the right one
abbrev pub records_at : List ℕ → ℕ → Two ℕ
records_at trace index = two (word_at trace (index * 8)) (word_at trace (index * 8 + 4))

abbrev pub whole_samples : List ℕ → ℕ
whole_samples trace = length trace / 8

unfoldable pub sample_at : List ℕ → ℕ → Sample
sample_at trace index = standing 8 (length trace) index (Whole (records_at trace index).left (records_at trace index).right) Leftover End

-- the number under which a run that finds this goes no further, 0 where nothing is wrong
abbrev pub number_of : Sample → ℕ
number_of (Whole left right) = 0
number_of Leftover = 4
number_of End = 0

pub record Reads (trace : List ℕ) (index : ℕ) (r : Sample) : Type 0 where
  pub number : number_of r ≡ number_at 8 (length trace) index
  pub result : r ≡ sample_at trace index

-- so many samples from an index on
abbrev pub samples_from : List ℕ → ℕ → ℕ → List (Two ℕ)
samples_from trace index many = items_from (records_at trace) index many
