-- What is turned away: 5 to 10, in the table's order, with 8 as paper 02, order 3, widens it, and 12 of order 2.
use Rattle.std.specs.Prelude.{ℕ, ◌+◌, ◌-◌, Bool, not, cond, ◌&&◌, ◌||◌, ◌≡◌}
use Rattle.counts.specs.declared.part.Part.{Part}
use Rattle.counts.specs.Part.{depth_of}
use Rattle.offsets.specs.declared.registers.Method.{Method}
use Rattle.offsets.specs.declared.registers.Method.TheVariants.{Parallel, Serial}
use Rattle.pins.specs.declared.record.Pins.{Pins}
use Rattle.sides.specs.declared.read.Mode.{Mode}
use Rattle.sides.specs.declared.read.Mode.TheVariants.{Standard, Fwft}
use Rattle.sides.specs.Clocks.{read_rises, write_rises}
use Rattle.sides.specs.Read.{retransmits}
use Rattle.views.specs.Retransmit.{is_seen}
use Rattle.sides.specs.Write.{accepted_more, accepted_none}
use Rattle.chip.specs.declared.state.State.{State}
use Rattle.chip.specs.Enables.{last_fall_clean}

abbrev pub refuses_five : Pins → State → Bool
refuses_five p s = not s.started && p.mrs

-- more than one of the three is LOW
abbrev pub several_low : Bool → Bool → Bool → Bool
several_low wen ren sen = not wen && not ren || not wen && not sen || not ren && not sen

unfoldable pub refuses_six : Pins → State → Bool
refuses_six p s = (write_rises p s.write || read_rises p s.read) && not p.ld && several_low p.wen p.ren p.sen

-- the pin of the loading method that was not selected is LOW
abbrev pub asks_unselected : Method → Pins → Bool
asks_unselected Parallel p = not p.sen
asks_unselected Serial p = not p.wen

unfoldable pub refuses_seven : Pins → State → Bool
refuses_seven p s = write_rises p s.write && not p.ld && asks_unselected s.offsets.method p

-- an enable is LOW at the rise, or was at RT's fall or just before it
unfoldable pub refuses_eight : Pins → State → Bool
refuses_eight p s = retransmits p s.read && (not p.ren || not p.wen || not (last_fall_clean p s.enables))

-- D, which counts the output register in FWFT
abbrev pub capacity : ℕ → Mode → ℕ
capacity depth Standard = depth
capacity depth (Fwft untaken) = depth + 1

-- the most words with which a retransmit is taken
abbrev pub retransmit_most : ℕ → Mode → ℕ
retransmit_most depth mode = capacity depth mode - 2

unfoldable pub refuses_nine : ℕ → Pins → State → Bool
refuses_nine depth p s =
    retransmits p s.read && (accepted_none s.write || accepted_more (retransmit_most depth s.read.mode) s.write)

unfoldable pub refuses_ten : Pins → State → Bool
refuses_ten p s = write_rises p s.write && p.ld && not p.wen && not (is_seen s.write.view)

-- a word is asked for while D moves: a write, full or not, or a parallel load, by LD; under serial loading 7 comes first
unfoldable pub refuses_twelve : Pins → State → Bool
refuses_twelve p s = write_rises p s.write && not p.wen && p.unsettled

-- the table from row 10 on, from row 8 on, and from row 6 on
abbrev pub from_ten : Pins → State → ℕ
from_ten p s =
    cond (refuses_ten p s) 10
    (cond (refuses_twelve p s) 12 0)

abbrev pub from_eight : Part → Pins → State → ℕ
from_eight part p s =
    cond (refuses_eight p s) 8
    (cond (refuses_nine (depth_of part) p s) 9
    (from_ten p s))

abbrev pub from_six : Part → Pins → State → ℕ
from_six part p s =
    cond (refuses_six p s) 6
    (cond (refuses_seven p s) 7
    (from_eight part p s))

-- the first number that applies, or 0; a reset passes over all but 5
unfoldable pub refusal_of : Part → Pins → State → ℕ
refusal_of part p s = cond (refuses_five p s) 5 (cond (p.mrs && p.prs) (from_six part p s) 0)

abbrev pub Refuses : Part → Pins → State → ℕ → Type 0
Refuses part p s r = r ≡ refusal_of part p s
