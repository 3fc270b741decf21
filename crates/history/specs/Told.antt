-- What holds between the model and the onlooker's notes at every moment from power-up on.
use Rattle.std.specs.Prelude.{ℕ, ◌<◌, true, false, ◌≡◌, length, take}
use Rattle.refusals.specs.ReachLaws.{Reached}
use Rattle.chip.specs.ResetLaws.{is_fwft}
use Rattle.counts.specs.declared.part.Part.{Part}
use Rattle.counts.specs.Part.{depth_of}
use Rattle.sides.specs.declared.read.Mode.{Mode}
use Rattle.sides.specs.declared.read.Mode.TheVariants.{Standard, Fwft}
use Rattle.views.specs.TrueCounts.{TrueCounts}
use Rattle.history.specs.Onlooker.{last_of}
use Rattle.history.specs.Trace.{Moment}
use Rattle.history.specs.WordLaws.{Holds}

-- in FWFT a word that is untaken was delivered
abbrev pub Came : Mode → ℕ → Type 0
Came Standard delivered = Unit {0}
Came (Fwft true) delivered = 0 < delivered
Came (Fwft false) delivered = Unit {0}

-- of the notes: the levels and the mode are the model's, as many words are noted as the true counts say, memory holds the last of
-- those accepted, those delivered are the first of them, and the output register holds the last that was delivered
pub record Agrees (part : Part) (m : Moment) (t : TrueCounts) : Type 0 where
  pub whole : length m.memory ≡ depth_of part
  pub wclk : m.notes.wclk ≡ m.state.write.level
  pub rclk : m.notes.rclk ≡ m.state.read.level
  pub fwft : m.notes.fwft ≡ is_fwft m.state.read.mode
  pub written : length m.notes.accepted ≡ t.written
  pub read : length m.notes.delivered ≡ t.read
  pub holds : Holds (depth_of part) m.memory m.notes.accepted
  pub same : m.notes.delivered ≡ take t.read m.notes.accepted
  pub newest : 0 < length m.notes.delivered → m.state.read.output ≡ last_of m.notes.delivered
  pub came : Came m.state.read.mode t.read

pub record Told (part : Part) (m : Moment) (t : TrueCounts) : Type 0 where
  pub reached : Reached part m.state t
  pub agrees : Agrees part m t
