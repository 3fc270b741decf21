-- A sample outside reset in which no clock rises: only what is remembered of the pins changes.
use Rattle.std.specs.Prelude.{ℕ, Bool, true, false, not, ◌&&◌, ◌||◌, ◌≡◌, refl, None}
use Rattle.std.proofs.Math.Bool.{and-eq-true_iff, and-false}
use Rattle.std.proofs.lemmas.Bool.{not-true}
use Rattle.counts.specs.declared.part.Part.{Part}
use Rattle.counts.specs.Part.{depth_of}
use Rattle.offsets.specs.Loading.{offsets_after}
use Rattle.offsets.specs.Reading.{reading_after}
use Rattle.pins.specs.declared.record.Pins.{Pins}
use Rattle.sides.specs.Clocks.{read_rises, write_rises}
use Rattle.sides.specs.Held.{held_read, held_write}
use Rattle.sides.specs.HeldLaws.{read_held, write_held}
use Rattle.sides.specs.Read.{ready, retransmits, sees_word}
use Rattle.sides.specs.Write.{accepts, full}
use Rattle.chip.specs.declared.state.State.{State}
use Rattle.chip.specs.Advance.{advanced, running, state_after, store_of}
use Rattle.chip.specs.Answer.{answer_of, lines_of}
use Rattle.chip.specs.Enables.{enables_after}
use Rattle.chip.specs.Quiet.{clock_rises, held, quiet}

-- neither clock rises
pub record NoRise (p : Pins) (s : State) : Type 0 where
  pub write : write_rises p s.write ≡ false
  pub read : read_rises p s.read ≡ false

no_rise_by : (write read : Bool) → (write || read) ≡ false → (write ≡ false) × (read ≡ false)
no_rise_by false read e = (refl, e)
no_rise_by true read e = (e, cc)

pub no_rise : (p : Pins) (s : State) → clock_rises p s ≡ false → NoRise p s
no_rise p s e = let both = no_rise_by (write_rises p s.write) (read_rises p s.read) e in record { write = both.0; read = both.1 }

-- `held` spelt out
abbrev rested : Pins → State → State
rested p s = record {
  started = s.started;
  write = held_write p.wclk s.write.latest s.write.view s.write;
  read = held_read p.rclk s.read.latest s.read;
  offsets = s.offsets;
  reading = s.reading;
  enables = enables_after p s.enables;
}

running_held : (part : Part) (p : Pins) (fetched : ℕ) (s : State) → NoRise p s → running part p fetched s ≡ rested p s
unfolding running offsets_after reading_after retransmits
running_held part p fetched s e =
    simp (write_held (depth_of part) s.offsets.m p s.read s.write e.write, read_held s.offsets.n p fetched s.write s.read e.read, e.write, e.read)

answer_held : (part : Part) (p : Pins) (s : State) → answer_of part p (held p s) ≡ answer_of part p s
unfolding answer_of lines_of held full ready sees_word
answer_held part p s = refl

nothing_stored : (part : Part) (p : Pins) (s : State) → NoRise p s → store_of part p s ≡ None
unfolding store_of accepts
nothing_stored part p s e = simp (e.write, and-false)

quiet_by : (part : Part) (p : Pins) (fetched : ℕ) (s after : State) → (NoRise p s → running part p fetched s ≡ after)
    → answer_of part p after ≡ answer_of part p s → quiet p s ≡ true
    → advanced part p fetched s ≡ record { state = after; answer = answer_of part p s; store = None }
unfolding advanced state_after quiet
quiet_by part p fetched s after runs answers e =
    let outside = (and-eq-true_iff (p.mrs && p.prs) (not (clock_rises p s))).0 e in
    let high = (and-eq-true_iff p.mrs p.prs).0 outside.0 in
    let calm = no_rise p s (not-true (clock_rises p s) outside.1) in
    simp (high.0, high.1, runs calm, answers, nothing_stored part p s calm)

pub quiet_advanced : (part : Part) (p : Pins) (fetched : ℕ) (s : State) → quiet p s ≡ true
    → advanced part p fetched s ≡ record { state = held p s; answer = answer_of part p s; store = None }
unfolding held
quiet_advanced part p fetched s = quiet_by part p fetched s (held p s) (running_held part p fetched s) (answer_held part p s)
