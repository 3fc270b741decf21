-- Order 4: one sample of a chain. Parts are counted from 0.
use Rattle.std.specs.Prelude.{ℕ, zero, suc, ◌+◌, ◌*◌, ◌-◌, Bool, true, false, not, cond, ◌&&◌, ◌||◌, List, ◌++◌, ◌≡◌, eqb, drop, get_or, take}
use Rattle.chip.specs.declared.state.State.{State}
use Rattle.chip.specs.Answer.{lines_of}
use Rattle.chip.specs.Reset.{powered_up}
use Rattle.chip.specs.ResetLaws.{is_fwft}
use Rattle.chip.specs.State.{passes}
use Rattle.counts.specs.declared.part.Part.{Part}
use Rattle.counts.specs.Part.{depth_of}
use Rattle.fifo.specs.Outcome.{Outcome, Refused, Taken}
use Rattle.fifo.specs.Sample.{taken}
use Rattle.links.specs.declared.record.Links.{Links}
use Rattle.links.specs.Record.{marks_of}
use Rattle.links.specs.Refuse.{least, whole_refusal}
use Rattle.links.specs.Wire.{ends_of, wired}
use Rattle.pins.specs.Answer.{packed}
use Rattle.pins.specs.declared.answer.Lines.{Lines}
use Rattle.pins.specs.declared.record.Pins.{Pins}
use Rattle.refusals.specs.Refuse.{refusal_of}
use Rattle.rows.specs.declared.row.Row.{Row}
use Rattle.rows.specs.Row.{with_state}

abbrev pub state_of : Row → ℕ → State
state_of row i = get_or row.states i powered_up

-- a test that each of the first i parts passes
unfoldable pub all_to : (State → Bool) → Row → ℕ → Bool
all_to test row zero = true
all_to test row (suc i) = all_to test row i && test (state_of row i)

-- not refused 3: the part's own test, and no part has been reset into Standard; before a Master Reset a part is in no mode
unfoldable pub passes_part : Part → State → Bool
passes_part part s = passes part s && (not s.started || is_fwft s.read.mode)

abbrev pub passes_to : Part → Row → ℕ → Bool
passes_to part row i = all_to (passes_part part) row i

-- flags and data of a part, as it answers them with OE LOW
abbrev pub shown_by : Part → Row → ℕ → Lines
shown_by part row i = lines_of part false (state_of row i)

-- what part i sees, by the record and by what its neighbours show before the sample
unfoldable pub wired_to : Part → Links → Row → ℕ → Pins
wired_to part x row i = wired x (marks_of x.more i) (eqb i 0) (eqb (i + 1) row.count) (shown_by part row (i - 1)) (shown_by part row (i + 1))

-- the first i parts have had a Master Reset
abbrev pub started_to : Row → ℕ → Bool
started_to row i = all_to (λ s. s.started) row i

-- the least number that one of the first i parts gives, by its own table and by the row before the sample
unfoldable pub judged_to : Part → Links → Row → ℕ → ℕ
judged_to part x row zero = 0
judged_to part x row (suc i) = least (judged_to part x row i) (refusal_of part (wired_to part x row i) (state_of row i))

-- 4, 5, 14, and then the parts
unfoldable pub chain_refusal : Part → Links → Row → ℕ
chain_refusal part x row = whole_refusal x (started_to row row.count) (judged_to part x row row.count)

-- a part whose words stand from a base on: what the single part makes of the sample, and the words before the base as they were
pub record Moved : Type 0 where
  pub state : State
  pub memory : List ℕ

unfoldable pub moved_part : Part → Pins → State → ℕ → List ℕ → Moved
moved_part part p s base memory =
    let own = taken part p s (drop base memory) in
    record { state = own.sampled.state; memory = take base memory ++ own.memory }

pub record Moves (m : Moved) (r : State) (memory : List ℕ) : Type 0 where
  pub result : r ≡ m.state
  pub words : memory ≡ m.memory

-- the row and the memories one after the other
pub record Moving : Type 0 where
  pub row : Row
  pub memory : List ℕ

abbrev pub one_moved : ℕ → Moved → Row → Moving
one_moved i m row = record { row = with_state row i m.state; memory = m.memory }

-- the first i parts moved, each by the row before the sample
unfoldable pub moved_to : Part → Links → Row → List ℕ → ℕ → Moving
moved_to part x row memory zero = record { row = row; memory = memory }
moved_to part x row memory (suc i) =
    one_moved i (moved_part part (wired_to part x row i) (state_of row i) (i * depth_of part) (moved_to part x row memory i).memory) (moved_to part x row memory i).row

-- by the row after the sample, with the record's OE at the last part
unfoldable pub chain_answer : Part → Pins → Row → ℕ
chain_answer part p row = packed (ends_of (shown_by part row 0) (lines_of part p.oe (state_of row (row.count - 1))))

-- what comes back of a sample, and row and memories after it
pub record After : Type 0 where
  pub outcome : Outcome
  pub row : Row
  pub memory : List ℕ

-- refused: a number, and nothing moved
abbrev pub turned_away : ℕ → Row → List ℕ → After
turned_away number row memory = record { outcome = Refused number; row = row; memory = memory }

abbrev pub took : Part → Pins → Moving → After
took part p m = record { outcome = Taken (chain_answer part p m.row); row = m.row; memory = m.memory }

unfoldable pub chain_stepped : Part → Links → Row → List ℕ → After
chain_stepped part x row memory =
    cond (eqb (chain_refusal part x row) 0)
    (took part x.pins (moved_to part x row memory row.count))
    (turned_away (chain_refusal part x row) row memory)
