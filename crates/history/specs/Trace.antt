-- A trace, sample by sample through the model's own definition of one sample, with an onlooker beside it.
use Rattle.std.specs.Prelude.{ℕ, zero, suc, ◌+◌, ◌*◌, ◌^◌, Bool, true, false, not, cond, ◌&&◌, ◌||◌, List, [], ◌∷◌, ◌≡◌, get_or, take, None}
use Rattle.chip.specs.declared.state.State.{State}
use Rattle.chip.specs.Answer.{lines_of}
use Rattle.chip.specs.Reset.{powered_up}
use Rattle.counts.specs.declared.part.Part.{Part}
use Rattle.counts.specs.Part.{number_of}
use Rattle.counts.specs.Round.{place_of}
use Rattle.notes.specs.Fold.{started}
use Rattle.runs.specs.Run.{Ended, run_of}
use Rattle.fifo.specs.Sample.{After, is_taken, sampled}
use Rattle.pins.specs.declared.record.Pins.{Pins}
use Rattle.pins.specs.Record.{bit, pins_of, word}
use Rattle.pins.specs.Trace.{records_from, whole_records}
use Rattle.history.specs.Onlooker.{Notes, Shown, accepts, blank, noted, outside, rclk_rises, retransmits, wclk_rises}

-- the model's state and memory, and the onlooker's notes
pub record Moment : Type 0 where
  pub state : State
  pub memory : List ℕ
  pub notes : Notes

abbrev pub at : State → List ℕ → Notes → Moment
at s memory notes = record { state = s; memory = memory; notes = notes }

unfoldable pub power_up : List ℕ → Moment
power_up memory = at powered_up memory blank

-- so many words that a memory holds from the place of a count on
unfoldable pub words_from : ℕ → List ℕ → ℕ → ℕ → List ℕ
words_from depth memory count zero = []
words_from depth memory count (suc many) = get_or memory (place_of depth count) 0 ∷ words_from depth memory (count + 1) many

-- OE has no part in the flags
unfoldable pub shown_by : Part → State → Shown
shown_by part s = record { ff = (lines_of part false s).ff; ef = (lines_of part false s).ef; register = s.read.output }

-- what an answer's bits give is what the onlooker sees: the flags, and the output register where OE is LOW and no offset is shown
pub record Answers (part : Part) (p : Pins) (s : State) (answer : ℕ) : Type 0 where
  pub ff : bit 23 answer ≡ (shown_by part s).ff
  pub ef : bit 22 answer ≡ (shown_by part s).ef
  pub hf : bit 21 answer ≡ (lines_of part false s).hf
  pub pae : bit 20 answer ≡ (lines_of part false s).pae
  pub paf : bit 19 answer ≡ (lines_of part false s).paf
  pub register : p.oe ≡ false → s.reading.shows ≡ None → word answer ≡ (shown_by part s).register

-- the answer of a record in the room for answers: three bytes, the first of most weight
unfoldable pub answer_at : ℕ → List ℕ → ℕ
answer_at index room = get_or room (index * 3) 0 * 2 ^ 16 + get_or room (index * 3 + 1) 0 * 2 ^ 8 + get_or room (index * 3 + 2) 0

-- the records of a trace that a run works before it comes to an index, and the record there
abbrev pub worked_on : ℕ → List ℕ → List ℕ
worked_on index bytes = take index (records_from bytes 0 (whole_records bytes))

abbrev pub worked_at : ℕ → List ℕ → ℕ
worked_at index bytes = get_or (records_from bytes 0 (whole_records bytes)) index 0

module _ (part : Part) where
  -- one sample, as `sample` works it
  unfoldable pub outcome : Moment → ℕ → After
  outcome m x = sampled (number_of part) x m.state m.memory

  unfoldable pub takes : Moment → ℕ → Bool
  takes m x = is_taken (outcome m x).sampled.outcome

  -- where a sample leads; a refused one is none to the onlooker
  abbrev pub moved_to : Moment → ℕ → After → Moment
  moved_to m x a = record {
    state = a.sampled.state;
    memory = a.memory;
    notes = cond (is_taken a.sampled.outcome) (noted m.notes (pins_of x) (shown_by part m.state) (shown_by part a.sampled.state)) m.notes;
  }

  unfoldable pub next : Moment → ℕ → Moment
  next m x = moved_to m x (outcome m x)

  -- the moment that a list of samples leads to
  unfoldable pub led : Moment → List ℕ → Moment
  led m [] = m
  led m (x ∷ xs) = led (next m x) xs

  -- the sample is taken and a word accepted in it
  unfoldable pub accepts_word : Moment → ℕ → Bool
  accepts_word m x = takes m x && accepts m.notes (pins_of x) (shown_by part m.state)

  -- no reset and no retransmit where the sample is taken
  abbrev pub calm : Moment → ℕ → Bool
  calm m x = not (takes m x) || outside (pins_of x) && not (retransmits m.notes (pins_of x))

  -- none among many samples
  unfoldable pub undisturbed : Moment → List ℕ → Bool
  undisturbed m [] = true
  undisturbed m (x ∷ xs) = calm m x && undisturbed (next m x) xs

  -- how often RCLK rises in samples that are taken, and how often WCLK
  unfoldable pub rclk_rises_in : Moment → List ℕ → ℕ
  rclk_rises_in m [] = 0
  rclk_rises_in m (x ∷ xs) = cond (takes m x && rclk_rises m.notes (pins_of x)) 1 0 + rclk_rises_in (next m x) xs

  unfoldable pub wclk_rises_in : Moment → List ℕ → ℕ
  wclk_rises_in m [] = 0
  wclk_rises_in m (x ∷ xs) = cond (takes m x && wclk_rises m.notes (pins_of x)) 1 0 + wclk_rises_in (next m x) xs

  -- the write skew is met at the first of these rises
  unfoldable pub write_skew_met : Moment → List ℕ → Bool
  write_skew_met m [] = true
  write_skew_met m (x ∷ xs) = cond (takes m x && wclk_rises m.notes (pins_of x)) (pins_of x).skew.write (write_skew_met (next m x) xs)

  -- a strict or a lenient run over a trace's bytes that goes on from a moment
  abbrev pub run_from : Moment → Bool → List ℕ → List ℕ → List ℕ → Ended
  run_from m lenient bytes answers marks = run_of lenient (number_of part) bytes (started m.state m.memory answers marks)
