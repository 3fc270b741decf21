-- Bench figures, the C call: the memory as bytes, four a word.
use Rattle.std.specs.Prelude.{ℕ, ◌+◌, ◌*◌, ◌<◌, List, Option, Some, None}
use Rattle.chip.specs.declared.advance.Put.{Put}
use Rattle.chip.specs.declared.state.State.{State}
use Rattle.counts.specs.declared.part.Part.{Part}
use Rattle.counts.specs.Part.{depth_of}
use Rattle.counts.specs.Round.{place_of}
use Rattle.numerals.specs.Bytes.{put_word}
use Rattle.pins.specs.Trace.{word_at}

abbrev pub word_size : ℕ
word_size = 4

abbrev pub memory_bytes : Part → ℕ
memory_bytes part = depth_of part * word_size

-- one word of the memory is fetched, and at most one stored
abbrev pub fetched_from : Part → State → List ℕ → ℕ
fetched_from part s memory = word_at memory (place_of (depth_of part) s.read.count.0 * word_size)

abbrev pub stored_in : Option Put → List ℕ → List ℕ
stored_in None memory = memory
stored_in (Some put) memory = put_word memory (put.place * word_size) put.word

-- the word to be stored lies in as many bytes
abbrev pub Within : Option Put → ℕ → Type 0
Within None bytes = Unit {0}
Within (Some put) bytes = put.place * word_size + 3 < bytes
