-- Trace sample: the answer that a state gives.
use Rattle.std.specs.Prelude.{ℕ, Bool, not}
use Rattle.counts.specs.declared.part.Part.{Part}
use Rattle.counts.specs.Part.{depth_of}
use Rattle.offsets.specs.Reading.{shown}
use Rattle.pins.specs.declared.answer.Lines.{Lines}
use Rattle.pins.specs.declared.record.Pins.{Pins}
use Rattle.pins.specs.Answer.{packed}
use Rattle.sides.specs.declared.read.Mode.{Mode}
use Rattle.sides.specs.declared.read.Mode.TheVariants.{Standard, Fwft}
use Rattle.views.specs.Flags.{hf_low}
use Rattle.sides.specs.Read.{ready}
use Rattle.sides.specs.Write.{full}
use Rattle.chip.specs.declared.state.State.{State}
use Rattle.chip.specs.State.{words_held}

-- FF tells full by LOW, IR by HIGH
abbrev pub ff_level : Mode → Bool → Bool
ff_level Standard isFull = not isFull
ff_level (Fwft untaken) isFull = isFull

-- EF tells a word ready by HIGH, OR by LOW
abbrev pub ef_level : Mode → Bool → Bool
ef_level Standard isReady = isReady
ef_level (Fwft untaken) isReady = not isReady

-- the chip's lines in a state, with the level of OE
unfoldable pub lines_of : Part → Bool → State → Lines
lines_of part oe s = record {
  ff = ff_level s.read.mode (full (depth_of part) s.write);
  ef = ef_level s.read.mode (ready s.read);
  hf = not (hf_low (depth_of part) (words_held s));
  pae = s.read.pae;
  paf = s.write.paf;
  driven = not oe;
  q = shown s.reading.shows s.read.output;
}

unfoldable pub answer_of : Part → Pins → State → ℕ
answer_of part p s = packed (lines_of part p.oe s)
