-- Offsets: reading, and what Q shows.
use Rattle.std.specs.Prelude.{ℕ, Bool, true, cond, Option, Some, None}
use Rattle.counts.specs.declared.part.Part.{Part}
use Rattle.counts.specs.Part.{offset_bits, within}
use Rattle.pins.specs.declared.record.Pins.{Pins}
use Rattle.offsets.specs.declared.reading.Reading.{Reading}
use Rattle.offsets.specs.declared.registers.Next.{Next}
use Rattle.offsets.specs.declared.registers.Offsets.{Offsets}
use Rattle.offsets.specs.Registers.{offset_at, other}

-- Q shows the output register again, and the sequence keeps its place
abbrev pub ended : Next → Reading
ended next = record { next = next; shows = None }

-- Q shows the next offset, as it stood before the sample
unfoldable pub read_next : Next → Offsets → Reading
read_next next o = record { next = other next; shows = Some (offset_at next o) }

-- what is read after a sample outside reset, by whether RCLK rises in it
unfoldable pub reading_after : Pins → Bool → Offsets → Reading → Reading
reading_after p rises o reading =
    cond rises (cond p.ld (ended reading.next) (cond p.ren reading (read_next reading.next o))) reading

-- what Q shows, given the output register
abbrev pub shown : Option ℕ → ℕ → ℕ
shown None output = output
shown (Some offset) output = offset

-- What is turned away, 3, on an offset while it is shown
abbrev pub shown_fits : Part → Option ℕ → Bool
shown_fits part None = true
shown_fits part (Some offset) = within (offset_bits part) offset
