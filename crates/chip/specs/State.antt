-- What is turned away, 3: the state's own test.
use Rattle.std.specs.Prelude.{ℕ, Bool, ◌&&◌, ◌≡◌, leb}
use Rattle.counts.specs.declared.part.Part.{Part}
use Rattle.counts.specs.Part.{depth_of}
use Rattle.counts.specs.Round.{ahead, behind}
use Rattle.offsets.specs.Reading.{shown_fits}
use Rattle.offsets.specs.Registers.{fit}
use Rattle.pins.specs.Record.{is_word}
use Rattle.chip.specs.declared.state.State.{State}

-- on widths
unfoldable pub widths : Part → State → Bool
widths part s = fit part s.offsets && shown_fits part s.reading.shows && is_word s.read.output

-- words in memory: HF and the test are judged by them
abbrev pub words_held : State → ℕ
words_held s = ahead s.write.count s.read.count

-- on counts: what lies between the write count and the read count, and between it and each stage
unfoldable pub in_reach : ℕ → State → Bool
in_reach depth s =
    leb (words_held s) depth
    && leb (ahead s.write.count s.write.first) depth
    && leb (ahead s.write.count s.write.second) depth
    && leb (behind s.write.count s.read.first) depth
    && leb (behind s.write.count s.read.second) depth
    && leb (behind s.write.count s.read.second) (words_held s)

-- not refused 3
unfoldable pub passes : Part → State → Bool
passes part s = widths part s && in_reach (depth_of part) s

abbrev pub Tested : Part → State → Bool → Type 0
Tested part s r = r ≡ passes part s
