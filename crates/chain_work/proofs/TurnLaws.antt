-- The parts of a row moved one after the other, in the words of the code.
use Prim.Native.Nat.{ℕ, ◌+◌, ◌*◌, ◌-◌, ◌≤◌, ◌<◌}
use mathlib.Core.Bool.{Bool, true, false, cond}
use mathlib.Core.List.{List}
use mathlib.Core.Path.{◌≡◌, refl, sym, ap, subst, ◌∙◌}
use lib.Dec.{eqb}
use lib.ListN.{get_or, length, set}
use native.Mathlib.Nat.{le_antisymm, mul-le-mul}
use native.Mathlib.Numerals.{add-one}
use native.Mathlib.Omega.{arith}
use Rattle.chip.specs.declared.state.State.{State}
use Rattle.chip.specs.Answer.{lines_of}
use Rattle.chip.specs.State.{widths}
use Rattle.counts.specs.declared.part.Part.{Part}
use Rattle.counts.specs.Part.{depth_of}
use Rattle.links.specs.declared.record.Links.{Links}
use Rattle.links.specs.Record.{marks_of}
use Rattle.links.specs.Wire.{ends_of, wired}
use Rattle.pins.specs.Answer.{packed}
use Rattle.pins.specs.declared.answer.Lines.{Lines}
use Rattle.pins.specs.declared.record.Pins.{Pins}
use Rattle.rows.specs.declared.row.Row.{Row}
use Rattle.rows.specs.MoveLaws.{moved_count, moved_eight, moved_later, moved_length, with_set}
use Rattle.rows.specs.Row.{with_state}
use Rattle.rows.specs.Step.{Moved, Moves, chain_answer, moved_part, moved_to, shown_by, state_of, wired_to}
use Rattle.rows.specs.StepLaws.{Fitting, all_at}
use Rattle.rows.specs.WiringLaws.{wired_now}
use Rattle.rows.specs.StateLaws.{state_at}

-- the first i parts have moved, and what the part before the next one showed before the sample
pub record Doing (part : Part) (x : Links) (before : Row) (words : List ℕ) (moving : ℕ) (memory : List ℕ) (row : Row) (earlier : Lines) (i : ℕ) : Type 0 where
  pub within : i ≤ moving
  pub moved : row ≡ (moved_to part x before words i).row
  pub stored : memory ≡ (moved_to part x before words i).memory
  pub shows : earlier ≡ shown_by part before (i - 1)

most_by : (none : Bool) (count moving : ℕ) → moving ≡ cond none count 0 → moving ≤ count
most_by true count moving e = omega (arith, e)
most_by false count moving e = omega (arith, e)

pub moving_most : (number count : ℕ) {moving : ℕ} → moving ≡ cond (eqb number 0) count 0 → moving ≤ count
moving_most number count e = most_by (eqb number 0) count _ e

module _ (part : Part) (x : Links) (before : Row) (words : List ℕ) (room : ℕ) (f : Fitting part room before) where
  pub doing : (moving : ℕ) (other : State) {earlier : Lines} → earlier ≡ lines_of part false (get_or before.states 0 other) → Doing part x before words moving words before earlier 0
  unfolding moved_to
  doing moving other e = record {
    within = omega arith;
    moved = refl;
    stored = refl;
    shows = e ∙ ap (lines_of part false) (state_at before f.eight 0 other (omega arith));
  }

  module _ {moving : ℕ} {memory : List ℕ} {row : Row} {earlier : Lines} {i : ℕ} (d : Doing part x before words moving memory row earlier i) where
    pub eight : length row.states ≡ 8
    eight = rw d.moved (moved_eight part x before words i ∙ f.eight)

    pub same_words_lem : length memory ≡ length words
    same_words_lem = rw d.stored (moved_length part x before words i)

    pub same_count : row.count ≡ before.count
    same_count = rw d.moved (moved_count part x before words i)

    module _ (l : i < moving) (most : moving ≤ before.count) where
      pub below : i < 8
      below = omega (arith, l, most, f.most)

      -- a part at or after the one whose turn it is, as the code reads it
      pub still_at : (j : ℕ) (other : State) → i ≤ j → j < 8 → get_or row.states j other ≡ state_of before j
      still_at j other h k =
          state_at row eight j other k ∙ rw d.moved (moved_later part x before words i j h)

      pub wired_at : {place : ℕ} → (place < 8) × (i < 7 → place ≡ i + 1) → (other : State) → {p : Pins}
          → p ≡ wired x (marks_of x.more i) (eqb i 0) (eqb (i + 1) before.count) earlier (lines_of part false (get_or row.states place other))
          → p ≡ wired_to part x before i
      wired_at {place} at other e =
          e
          ∙ wired_now part x before i (omega (arith, l, most)) f.most d.shows
          (λ low. still_at place other (omega (arith, at.1 low)) at.0 ∙ ap (state_of before) (at.1 low))

      pub base_within : {depth : ℕ} → depth ≡ depth_of part → length words ≡ room → i * depth ≤ length memory
      base_within {depth} e g =
          omega (arith, mul-le-mul {n₁ = i} {m₁ = depth} {n₂ = before.count} {m₂ = depth} (omega (arith, l, most)) (omega arith), subst (λ (n : ℕ). before.count * n ≤ room) (sym e) f.enough, same_words_lem, g)

      pub wide_at : (other : State) → widths part (get_or row.states i other) ≡ true
      wide_at other = rw (still_at i other (omega arith) below) (all_at (widths part) before before.count i f.wide (omega (arith, l, most)))

      pub moved_now : (own : State) {p : Pins} → p ≡ wired_to part x before i → {depth : ℕ} → depth ≡ depth_of part → {s : State} {after : List ℕ}
          → Moves (moved_part part p (get_or row.states i own) (i * depth) memory) s after
          → {next : Lines} → next ≡ lines_of part false (get_or row.states i own)
          → Doing part x before words moving after (record { count = row.count; states = set row.states i s }) next (i + 1)
      unfolding moved_to
      moved_now own {p} e {depth} g {s} {after} h {next} k =
          let here = still_at i own (omega arith) below in
          let back : i + 1 - 1 ≡ i = omega arith in
          let same : moved_part part p (get_or row.states i own) (i * depth) memory ≡ moved_part part (wired_to part x before i) (state_of before i) (i * depth_of part) (moved_to part x before words i).memory =
          rw (e, here, g, d.stored) refl in
          record {
            within = omega (arith, l);
            moved =
                sym (with_set row i s below)
                ∙ (λ j. with_state (d.moved j) i ((h.result ∙ ap (λ (m : Moved). m.state) same) j))
                ∙ ap (λ (n : ℕ). (moved_to part x before words n).row) (sym (add-one i));
            stored = h.words ∙ ap (λ (m : Moved). m.memory) same ∙ ap (λ (n : ℕ). (moved_to part x before words n).memory) (sym (add-one i));
            shows = k ∙ rw (here, back) refl;
          }

    module _ (l : moving ≤ i) where
      pub all_moved : (row ≡ (moved_to part x before words moving).row) × (memory ≡ (moved_to part x before words moving).memory)
      all_moved = let all : i ≡ moving = le_antisymm d.within l in
          (d.moved ∙ ap (λ (n : ℕ). (moved_to part x before words n).row) all, d.stored ∙ ap (λ (n : ℕ). (moved_to part x before words n).memory) all)

    pub answer_now : (p : Pins) {last : ℕ} → last ≡ before.count - 1 → (one other : State) → {answer : ℕ}
        → answer ≡ packed (ends_of (lines_of part false (get_or row.states 0 one)) (lines_of part p.oe (get_or row.states last other)))
        → answer ≡ chain_answer part p row
    unfolding chain_answer
    answer_now p {last} e one other a =
        let at : last < 8 = omega (arith, e, f.most) in
        let end : last ≡ row.count - 1 = e ∙ ap (λ (n : ℕ). n - 1) (sym same_count) in
        a ∙ rw (state_at row eight 0 one (omega arith), state_at row eight last other at, end) refl
