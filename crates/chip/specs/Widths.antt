-- What is turned away, 3, on widths: a state that passes them keeps passing them.
use Rattle.std.specs.Prelude.{ℕ, ◌^◌, Bool, true, false, cond, ◌≡◌, refl}
use Rattle.std.proofs.Common.{lt-ltb, arith}
use Rattle.counts.specs.declared.part.Part.{Part}
use Rattle.counts.specs.Both.{both}
use Rattle.counts.specs.Either.{either}
use Rattle.counts.specs.Part.{depth_of}
use Rattle.offsets.specs.Fits.{defaults_fit, offsets_stay, shown_stays}
use Rattle.offsets.specs.Reading.{shown_fits}
use Rattle.offsets.specs.Registers.{fit}
use Rattle.pins.specs.declared.record.Pins.{Pins}
use Rattle.pins.specs.Record.{is_word, word}
use Rattle.sides.specs.Clocks.{read_rises, write_rises}
use Rattle.sides.specs.Read.{delivers, read_after}
use Rattle.chip.specs.declared.state.State.{State}
use Rattle.chip.specs.Advance.{advanced, running, state_after}
use Rattle.chip.specs.Reset.{cleared, master_reset, partial_reset}
use Rattle.chip.specs.State.{in_reach, passes, widths}

-- a state that passes 3 passes its widths
pub tested_widths : (part : Part) (s : State) → passes part s ≡ true → widths part s ≡ true
unfolding passes
tested_widths part s e = (both (widths part s) (in_reach (depth_of part) s) e).0

-- the test of widths taken apart
pub record Widths (part : Part) (s : State) : Type 0 where
  pub offsets : fit part s.offsets ≡ true
  pub shown : shown_fits part s.reading.shows ≡ true
  pub output : is_word s.read.output ≡ true

pub apart : (part : Part) (s : State) → widths part s ≡ true → Widths part s
unfolding widths
apart part s e =
    let all = both _ _ e in
    let offsets = both _ _ all.0 in
    record { offsets = offsets.0; shown = offsets.1; output = all.1 }

together : (part : Part) (s : State) → Widths part s → widths part s ≡ true
unfolding widths
together part s w = simp (w.offsets, w.shown, w.output)

output_stays : (delivered : Bool) (fetched output : ℕ) → is_word output ≡ true → is_word (cond delivered (word fetched) output) ≡ true
output_stays true fetched output e = lt-ltb (word fetched) (2 ^ 18) (omega arith)
output_stays false fetched output e = e

running_widths : (part : Part) (p : Pins) (fetched : ℕ) (s : State) → Widths part s → Widths part (running part p fetched s)
unfolding running read_after
running_widths part p fetched s w = record {
  offsets = offsets_stay part p (write_rises p s.write) s.offsets w.offsets;
  shown = shown_stays part p (read_rises p s.read) s.offsets s.reading w.offsets w.shown;
  output = output_stays (delivers p s.read) fetched s.read.output w.output;
}

master_widths : (part : Part) (p : Pins) (s : State) → Widths part (master_reset p s)
unfolding master_reset cleared
master_widths part p s = record { offsets = defaults_fit part p.ld; shown = refl; output = refl }

partial_widths : (part : Part) (p : Pins) (s : State) → Widths part s → Widths part (partial_reset p s)
unfolding partial_reset cleared
partial_widths part p s w = record { offsets = w.offsets; shown = refl; output = refl }

pub widths_stay : (part : Part) (p : Pins) (fetched : ℕ) (s : State) → widths part s ≡ true → widths part (advanced part p fetched s).state ≡ true
unfolding advanced state_after
widths_stay part p fetched s e =
    let w = apart part s e in
    together part (state_after part p fetched s)
    (either (Widths part) p.mrs _ (master_reset p s)
    (either (Widths part) p.prs (running part p fetched s) (partial_reset p s) (running_widths part p fetched s w) (partial_widths part p s w))
    (master_widths part p s))
