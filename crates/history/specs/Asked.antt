-- What a user of the part goes by and has of it: the flags that allow a write and a read, and how many words were taken.
use Rattle.std.specs.Prelude.{ℕ, ◌+◌, Bool, true, false, not, cond, ◌&&◌, ◌≡◌}
use Rattle.counts.specs.declared.part.Part.{Part}
use Rattle.pins.specs.Record.{pins_of}
use Rattle.history.specs.Onlooker.{full, outside, reads, ready}
use Rattle.history.specs.Trace.{Moment, shown_by, takes}

-- FF HIGH, or IR LOW
abbrev pub ShowsRoom : Part → Moment → Type 0
ShowsRoom part m = full m.notes.fwft (shown_by part m.state) ≡ false

-- EF HIGH, or OR LOW
abbrev pub ShowsWord : Part → Moment → Type 0
ShowsWord part m = ready m.notes.fwft (shown_by part m.state) ≡ true

module _ (part : Part) where
  -- the sample is taken and a word read in it: in Standard the one that the read delivers, in FWFT the one in the output register
  unfoldable pub reads_word : Moment → ℕ → Bool
  reads_word m x = takes part m x && reads m.notes (pins_of x) (shown_by part m.state)

  -- from so many words taken since the last reset, how many they are after a sample; a retransmit clears nothing of it
  unfoldable pub taken_next : Moment → ℕ → ℕ → ℕ
  taken_next m x n = cond (takes part m x && not (outside (pins_of x))) 0 (cond (reads_word m x) (n + 1) n)
