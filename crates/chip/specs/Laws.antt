-- What callers may know of an answer and a store without opening their definitions.
use Rattle.std.specs.Prelude.{ℕ, ◌%◌, ◌^◌, ◌≤◌, ◌<◌, Bool, true, false, cond, ◌&&◌, ◌≢◌, ◌≡◌, Option, Some, None}
use Rattle.chip.specs.declared.advance.Put.{Put}
use Rattle.std.proofs.Common.{◌∙◌, pow_mono, ltb-true, mod-eq_of_lt, arith}
use Rattle.counts.specs.declared.part.Part.{Part}
use Rattle.counts.specs.Laws.{place_below}
use Rattle.counts.specs.Part.{depth_of, offset_bits, place_bits, within}
use Rattle.counts.specs.PartLaws.{offset_bits_lem}
use Rattle.counts.specs.Round.{place_of}
use Rattle.offsets.specs.Reading.{shown, shown_fits}
use Rattle.pins.specs.declared.record.Pins.{Pins}
use Rattle.pins.specs.Laws.{laid}
use Rattle.pins.specs.Record.{bit, is_word, word}
use Rattle.sides.specs.Write.{accepts, full}
use Rattle.chip.specs.declared.state.State.{State}
use Rattle.chip.specs.Advance.{store_of}
use Rattle.chip.specs.Answer.{answer_of, lines_of}
use Rattle.chip.specs.Levels.{High, Low, Outside, WriteRise, less_round}
use Rattle.chip.specs.State.{widths}
use Rattle.chip.specs.Tells.{Tells, both, fails, four, high, high_where, low, none, same, write_rise}
use Rattle.chip.specs.Widths.{apart}

-- a word goes to a place of the memory, with nothing above its 18 bits
abbrev pub Placed : Part → Option Put → Type 0
Placed part None = Unit {0}
Placed part (Some put) = (put.place < depth_of part) × (put.word < 2 ^ 18)

placed_by : (part : Part) (stores : Bool) (count d : ℕ) → Placed part (cond stores (Some (record { place = place_of (depth_of part) count; word = word d })) None)
placed_by part true count d = (place_below (place_bits part) count, omega arith)
placed_by part false count d = tt

pub store_placed : (part : Part) (p : Pins) (s : State) → Placed part (store_of part p s)
unfolding store_of
store_placed part p s = placed_by part (p.mrs && p.prs && accepts (depth_of part) p s.write) s.write.count.0 p.d

-- outside reset, a WCLK rise with LD HIGH and WEN LOW, and not full before the sample
abbrev pub Accepted : Part → Pins → State → Type 0
Accepted part p s = Outside p × (WriteRise p s × High p.ld × Low p.wen × (less_round s.write.count.0 s.write.second.0 ≢ depth_of part))

accepted : (part : Part) (p : Pins) (s : State) → Tells (Accepted part p s) (p.mrs && p.prs && accepts (depth_of part) p s.write)
unfolding accepts full
accepted part p s = both (both (high p.mrs) (high p.prs)) (four (write_rise p s) (high p.ld) (low p.wen) (none (same _ _)))

-- D goes to memory at the write count modulo depth where it is accepted, and nothing does otherwise
pub word_stored : (part : Part) (p : Pins) (s : State)
    → (Accepted part p s → store_of part p s ≡ Some (record { place = s.write.count.0 % depth_of part; word = p.d % 2 ^ 18 }))
    × (¬ Accepted part p s → store_of part p s ≡ None)
unfolding store_of
word_stored part p s = (λ asked. simp ((high_where (accepted part p s)).1 asked), λ not_asked. simp (fails (accepted part p s) not_asked))

pub answer_whole : (part : Part) (p : Pins) (s : State) → answer_of part p s < 2 ^ 24
unfolding answer_of
answer_whole part p s = (laid (lines_of part p.oe s)).whole

-- the flags are given whether OE is HIGH or LOW
pub flags_given : (part : Part) (p : Pins) (oe : Bool) (s : State) → let a = answer_of part p s in let l = lines_of part oe s in
    (bit 23 a ≡ l.ff) × (bit 22 a ≡ l.ef) × (bit 21 a ≡ l.hf) × (bit 20 a ≡ l.pae) × (bit 19 a ≡ l.paf)
unfolding answer_of lines_of
flags_given part p oe s = let l = laid (lines_of part p.oe s) in (l.ff, l.ef, l.hf, l.pae, l.paf)

-- OE HIGH: no word is given
pub nothing_given : (part : Part) (p : Pins) (s : State) → p.oe ≡ true → word (answer_of part p s) ≡ 0
unfolding answer_of lines_of
nothing_given part p s e = (laid (lines_of part p.oe s)).q ∙ simp e

narrow : (bits x : ℕ) → bits ≤ 18 → within bits x ≡ true → word x ≡ x
narrow bits x h e = mod-eq_of_lt (omega (arith, ltb-true x (2 ^ bits) e, pow_mono {i = bits} {j = 18} h))

shown_narrow : (part : Part) (shows : Option ℕ) (output : ℕ) → shown_fits part shows ≡ true → is_word output ≡ true
    → word (shown shows output) ≡ shown shows output
shown_narrow part None output e f = narrow 18 output (omega arith) f
shown_narrow part (Some offset) output e f = narrow (offset_bits part) offset (omega (arith, offset_bits_lem part)) e

-- OE LOW: the word is what Q shows, whole
pub shown_given : (part : Part) (p : Pins) (s : State) → widths part s ≡ true → p.oe ≡ false
    → word (answer_of part p s) ≡ shown s.reading.shows s.read.output
unfolding answer_of lines_of
shown_given part p s e low =
    let w = apart part s e in
    (laid (lines_of part p.oe s)).q ∙ simp low (shown_narrow part s.reading.shows s.read.output w.shown w.output)
