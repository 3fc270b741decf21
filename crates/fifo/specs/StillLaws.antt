-- A record that is never refused and moves only what is remembered of the pins.
use Rattle.std.specs.Prelude.{ℕ, true, List, ◌≡◌, None}
use Rattle.std.proofs.Common.{eq-eqb}
use Rattle.chip.specs.declared.state.State.{State}
use Rattle.chip.specs.Answer.{answer_of}
use Rattle.chip.specs.Quiet.{held, quiet}
use Rattle.chip.specs.QuietLaws.{quiet_advanced}
use Rattle.refusals.specs.FreeLaws.{quiet_free}
use Rattle.counts.specs.declared.part.Part.{Part}
use Rattle.counts.specs.Both.{both}
use Rattle.pins.specs.Record.{pins_of}
use Rattle.fifo.specs.Sample.{fetched_for, record_refusal, stepped, taken, took}
use Rattle.fifo.specs.Still.{still}

apart : (x : ℕ) (s : State) → still x s ≡ true → (s.started ≡ true) × (quiet (pins_of x) s ≡ true)
unfolding still
apart x s = both s.started (quiet (pins_of x) s)

pub still_quiet : (x : ℕ) (s : State) → still x s ≡ true → quiet (pins_of x) s ≡ true
still_quiet x s e = (apart x s e).1

pub still_free : (part : Part) (x : ℕ) (s : State) → still x s ≡ true → record_refusal part x s ≡ 0
unfolding record_refusal
still_free part x s e = let a = apart x s e in quiet_free part (pins_of x) s a.0 a.1

pub still_stepped : (part : Part) (x : ℕ) (s : State) (memory : List ℕ) → still x s ≡ true
    → stepped part x s memory ≡ took (record { state = held (pins_of x) s; answer = answer_of part (pins_of x) s; store = None }) memory
unfolding stepped taken
still_stepped part x s memory e =
    simp (eq-eqb _ _ (still_free part x s e), quiet_advanced part (pins_of x) (fetched_for part s memory) s (still_quiet x s e))
