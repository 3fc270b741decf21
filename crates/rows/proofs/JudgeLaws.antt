-- The parts of a row judged one after the other, in the words of the code.
use Prim.Native.Nat.{ℕ, ◌+◌, ◌-◌, ◌≤◌, ◌<◌}
use mathlib.Core.Bool.{Bool, true, false, ◌&&◌}
use mathlib.Core.Path.{◌≡◌, refl, ap, ◌∙◌}
use lib.ListN.{get_or, length}
use native.Mathlib.Nat.{le_antisymm}
use native.Mathlib.Numerals.{add-one}
use native.Mathlib.Omega.{arith}
use Rattle.chip.specs.declared.state.State.{State}
use Rattle.chip.specs.Answer.{lines_of}
use Rattle.counts.specs.declared.part.Part.{Part}
use Rattle.links.specs.declared.record.Links.{Links}
use Rattle.links.specs.Refuse.{least, whole_refusal}
use Rattle.pins.specs.declared.answer.Lines.{Lines}
use Rattle.pins.specs.declared.record.Pins.{Pins}
use Rattle.refusals.specs.Refuse.{refusal_of}
use Rattle.rows.specs.declared.row.Row.{Row}
use Rattle.rows.specs.Step.{all_to, chain_refusal, judged_to, passes_part, passes_to, shown_by, started_to, state_of, wired_to}
use Rattle.rows.specs.WiringLaws.{seen, wired_now}
use Rattle.rows.specs.StateLaws.{state_at}

module _ (row : Row) (eight : length row.states ≡ 8) where
  pub passed_now : (part : Part) {count i : ℕ} → i < count → count ≤ 8 → {pass : Bool} → pass ≡ passes_to part row i → (other : State) → {r : Bool} → r ≡ passes_part part (get_or row.states i other)
      → pass && r ≡ passes_to part row (i + 1)
  unfolding all_to
  passed_now part {count} {i} l m e other f = rw (add-one i) (rw (e, f, state_at row eight i other (omega (arith, l, m))) refl)

pub all_passed : (part : Part) (row : Row) {count i : ℕ} {pass : Bool} → i ≤ count → count ≤ i → pass ≡ passes_to part row i → pass ≡ passes_to part row count
all_passed part row l m e = e ∙ ap (passes_to part row) (le_antisymm l m)

-- the first i parts judged, and what the part before the next one showed
pub record Judging (part : Part) (x : Links) (row : Row) (earlier : Lines) (started : Bool) (number i : ℕ) : Type 0 where
  pub within : i ≤ row.count
  pub shows : earlier ≡ shown_by part row (i - 1)
  pub reset : started ≡ started_to row i
  pub judged : number ≡ judged_to part x row i

module _ (part : Part) (x : Links) (row : Row) (eight : length row.states ≡ 8) where
  pub judging : (other : State) {earlier : Lines} → earlier ≡ lines_of part false (get_or row.states 0 other) → Judging part x row earlier true 0 0
  unfolding all_to judged_to
  judging other e = record { within = omega arith; shows = e ∙ ap (lines_of part false) (state_at row eight 0 other (omega arith)); reset = refl; judged = refl }

  module _ {earlier : Lines} {started : Bool} {number i : ℕ} (j : Judging part x row earlier started number i) (l : i < row.count) (most : row.count ≤ 8) where
    below : i < 8
    below = omega (arith, l, most)

    -- the state after its own, as the code finds it
    pub wired_at : {place : ℕ} → (place < 8) × (i < 7 → place ≡ i + 1) → (other : State) → {p : Pins} → p ≡ seen part x row i earlier (get_or row.states place other) → p ≡ wired_to part x row i
    wired_at {place} at other e =
        e ∙ wired_now part x row i l most j.shows (λ low. state_at row eight place other at.0 ∙ ap (state_of row) (at.1 low))

    pub judged_now : (own : State) {p : Pins} → p ≡ wired_to part x row i → {r : ℕ} → r ≡ refusal_of part p (get_or row.states i own) → {next : ℕ} → next ≡ least number r
        → {after : Lines} → after ≡ lines_of part false (get_or row.states i own)
        → Judging part x row after (started && (get_or row.states i own).started) next (i + 1)
    unfolding all_to judged_to
    judged_now own e f g h =
        let here = state_at row eight i own below in
        let back : i + 1 - 1 ≡ i = omega arith in
        record {
          within = omega (arith, l);
          shows = h ∙ rw (here, back) refl;
          reset = rw (add-one i, j.reset, here) refl;
          judged = rw (add-one i, g, f, e, here, j.judged) refl;
        }

  pub judged_all : {earlier : Lines} {started : Bool} {number i : ℕ} → Judging part x row earlier started number i → row.count ≤ i → {r : ℕ} → r ≡ whole_refusal x started number
      → r ≡ chain_refusal part x row
  unfolding chain_refusal
  judged_all j l e = let all : row.count ≡ _ = le_antisymm l j.within in rw (e, j.reset, j.judged, all) refl
