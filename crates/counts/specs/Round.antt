-- The two sides, on the counts: two tuple structs, and sums and differences taken round their width.
use Rattle.std.specs.Prelude.{ℕ, ◌+◌, ◌-◌, ◌%◌, ◌^◌, Bool, cond, ◌==◌}
use Rattle.counts.specs.declared.round.WriteCount.{WriteCount}
use Rattle.counts.specs.declared.round.ReadCount.{ReadCount}

abbrev pub width : ℕ
width = 2 ^ 16

-- one more, round a width
abbrev pub more : ℕ → ℕ → ℕ
more around count = (count + 1) % around

-- a count less an earlier one, round a width
abbrev pub less : ℕ → ℕ → ℕ → ℕ
less around count earlier = (count + (around - earlier)) % around

-- where in memory the word of a count lies
abbrev pub place_of : ℕ → ℕ → ℕ
place_of depth count = count % depth

abbrev pub next_write : Bool → WriteCount → WriteCount
next_write moves count = record { 0 = cond moves (more width count.0) count.0 }

abbrev pub next_read : Bool → ReadCount → ReadCount
next_read moves count = record { 0 = cond moves (more width count.0) count.0 }

-- one word more takes the count past the largest number of its width
abbrev pub last_of_width : WriteCount → Bool
last_of_width count = count.0 == width - 1

-- words that a write count is ahead of a read count
abbrev pub ahead : WriteCount → ReadCount → ℕ
ahead write read = less width write.0 read.0

-- words that lie between an earlier write count and a later one
abbrev pub behind : WriteCount → WriteCount → ℕ
behind write earlier = less width write.0 earlier.0
