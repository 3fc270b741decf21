-- What is turned away, 3: a state passes exactly where each clause of the row holds of it.
use Rattle.std.specs.Prelude.{ℕ, ◌^◌, ◌≤◌, ◌<◌, true, ◌≡◌, refl, Option, Some, None}
use borrow.Author.Tests.{le-leb, leb-true, lt-ltb, ltb-true}
use Rattle.counts.specs.declared.part.Part.{Part}
use Rattle.counts.specs.Both.{both}
use Rattle.counts.specs.Part.{depth_of, offset_bits}
use Rattle.offsets.specs.Fits.{Fits, fits, fitting}
use Rattle.offsets.specs.Reading.{shown_fits}
use Rattle.chip.specs.declared.state.State.{State}
use Rattle.chip.specs.Levels.{less_round}
use Rattle.chip.specs.State.{in_reach, passes, widths}
use Rattle.chip.specs.Widths.{apart}

-- the offset shown, while it is
abbrev pub ShownBelow : ℕ → Option ℕ → Type 0
ShownBelow limit None = Unit {0}
ShownBelow limit (Some x) = x < limit

pub record Passing (part : Part) (s : State) : Type 0 where
  pub offsets : Fits part s.offsets
  pub shown : ShownBelow (2 ^ offset_bits part) s.reading.shows
  pub output : s.read.output < 2 ^ 18
  pub read : less_round s.write.count.0 s.read.count.0 ≤ depth_of part
  pub write_first : less_round s.write.count.0 s.write.first.0 ≤ depth_of part
  pub write_second : less_round s.write.count.0 s.write.second.0 ≤ depth_of part
  pub read_first : less_round s.write.count.0 s.read.first.0 ≤ depth_of part
  pub read_second : less_round s.write.count.0 s.read.second.0 ≤ depth_of part
  pub not_behind : less_round s.write.count.0 s.read.second.0 ≤ less_round s.write.count.0 s.read.count.0

shown_below : (part : Part) (shows : Option ℕ) → shown_fits part shows ≡ true → ShownBelow (2 ^ offset_bits part) shows
shown_below part None e = tt
shown_below part (Some x) e = ltb-true x (2 ^ offset_bits part) e

below_shown : (part : Part) (shows : Option ℕ) → ShownBelow (2 ^ offset_bits part) shows → shown_fits part shows ≡ true
below_shown part None h = refl
below_shown part (Some x) h = lt-ltb x (2 ^ offset_bits part) h

module _ (part : Part) (s : State) where
  pub three_spares : passes part s ≡ true → Passing part s
  unfolding passes in_reach
  three_spares e =
      let all = both (widths part s) (in_reach (depth_of part) s) e in
      let narrow = apart part s all.0 in
      let not_behind = both _ _ all.1 in
      let read_second = both _ _ not_behind.0 in
      let read_first = both _ _ read_second.0 in
      let write_second = both _ _ read_first.0 in
      let write_first = both _ _ write_second.0 in
      record {
        offsets = fits part s.offsets narrow.offsets;
        shown = shown_below part s.reading.shows narrow.shown;
        output = ltb-true s.read.output (2 ^ 18) narrow.output;
        read = leb-true _ _ write_first.0;
        write_first = leb-true _ _ write_first.1;
        write_second = leb-true _ _ write_second.1;
        read_first = leb-true _ _ read_first.1;
        read_second = leb-true _ _ read_second.1;
        not_behind = leb-true _ _ not_behind.1;
      }

  pub three_takes_no_other : Passing part s → passes part s ≡ true
  unfolding passes widths in_reach
  three_takes_no_other h =
      simp (
        fitting part s.offsets h.offsets,
        below_shown part s.reading.shows h.shown,
        lt-ltb s.read.output (2 ^ 18) h.output,
        le-leb (less_round s.write.count.0 s.read.count.0) (depth_of part) h.read,
        le-leb (less_round s.write.count.0 s.write.first.0) (depth_of part) h.write_first,
        le-leb (less_round s.write.count.0 s.write.second.0) (depth_of part) h.write_second,
        le-leb (less_round s.write.count.0 s.read.first.0) (depth_of part) h.read_first,
        le-leb (less_round s.write.count.0 s.read.second.0) (depth_of part) h.read_second,
        le-leb (less_round s.write.count.0 s.read.second.0) (less_round s.write.count.0 s.read.count.0) h.not_behind,
      )
