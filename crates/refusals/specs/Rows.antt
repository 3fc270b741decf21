-- What is turned away: rows 5 to 10 as the table states them, 8 widened by paper 02, order 3, and 12 of order 2, and which of them gives the number.
use Rattle.std.specs.Prelude.{ℕ, ◌+◌, ◌-◌, ◌<◌, Bool, true, false, ◌⊎◌, ◌≢◌, ◌≡◌}
use Rattle.counts.specs.declared.part.Part.{Part}
use Rattle.counts.specs.Part.{depth_of}
use Rattle.offsets.specs.declared.registers.Method.{Method}
use Rattle.offsets.specs.declared.registers.Method.TheVariants.{Parallel, Serial}
use Rattle.pins.specs.declared.record.Pins.{Pins}
use Rattle.sides.specs.declared.read.Mode.{Mode}
use Rattle.sides.specs.declared.read.Mode.TheVariants.{Standard, Fwft}
use Rattle.views.specs.declared.retransmit.View.TheVariants.{Seen}
use Rattle.chip.specs.declared.state.State.{State}
use Rattle.chip.specs.Levels.{High, Low, Outside, ReadRise, Unclean, WriteRise}

-- how many of one pin are LOW
abbrev pub lows : Bool → ℕ
lows true = 0
lows false = 1

-- WEN LOW under serial loading, SEN LOW under parallel loading
abbrev pub Unselected : Method → Pins → Type 0
Unselected Parallel p = Low p.sen
Unselected Serial p = Low p.wen

-- D of row 9
abbrev pub most_words : Part → Mode → ℕ
most_words part Standard = depth_of part
most_words part (Fwft untaken) = depth_of part + 1

abbrev pub Row5 : Pins → State → Type 0
Row5 p s = Low s.started × High p.mrs

abbrev pub Row6 : Pins → State → Type 0
Row6 p s = (WriteRise p s ⊎ ReadRise p s) × Low p.ld × (1 < lows p.wen + lows p.ren + lows p.sen)

abbrev pub Row7 : Pins → State → Type 0
Row7 p s = WriteRise p s × Low p.ld × Unselected s.offsets.method p

abbrev pub Row8 : Pins → State → Type 0
Row8 p s = ReadRise p s × Low p.rt × ((Low p.ren ⊎ Low p.wen) ⊎ Unclean p s.enables)

abbrev pub Row9 : ℕ → Part → Pins → State → Type 0
Row9 accepted part p s = ReadRise p s × Low p.rt × ((accepted ≡ 0) ⊎ (most_words part s.read.mode - 2 < accepted))

abbrev pub Row10 : Pins → State → Type 0
Row10 p s = WriteRise p s × High p.ld × Low p.wen × (s.write.view ≢ Seen)

-- LD HIGH asks for a write, LD LOW for a parallel load
abbrev pub Row12 : Pins → State → Type 0
Row12 p s = WriteRise p s × Low p.wen × High p.unsettled

-- k is this row's number where the row holds, and is found further down where it does not
abbrev pub Given : ℕ → ℕ → Type 0 → Type 0 → Type 0
Given k number Row Further = (Row × (k ≡ number)) ⊎ ((¬ Row) × Further)

-- k is the number of the first row that holds, or 0 where none does; 6 to 10 and 12 apply only outside reset
abbrev pub FirstRow : ℕ → Part → Pins → State → ℕ → Type 0
FirstRow accepted part p s k =
    Given k 5 (Row5 p s)
    (Given k 6 (Outside p × Row6 p s)
    (Given k 7 (Outside p × Row7 p s)
    (Given k 8 (Outside p × Row8 p s)
    (Given k 9 (Outside p × Row9 accepted part p s)
    (Given k 10 (Outside p × Row10 p s)
    (Given k 12 (Outside p × Row12 p s)
    (k ≡ 0)))))))
