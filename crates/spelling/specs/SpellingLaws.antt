-- The state's bytes: what is written over them, and that what was read is written back as the same bytes.
use Rattle.std.specs.Prelude.{ℕ, zero, suc, ◌+◌, ◌^◌, ◌<◌, true, ◌&&◌, ◌||◌, List, [], ◌∷◌, ◌≡◌, refl, eqb, ltb, get_or, length}
use Rattle.std.proofs.Common.{sym, ap, ◌∙◌, eqb-true, ltb-true, arith}
use Rattle.chip.specs.declared.state.State.{State}
use Rattle.chip.specs.Enables.{enables_after}
use Rattle.chip.specs.Quiet.{held}
use Rattle.counts.specs.Both.{both}
use Rattle.pins.specs.declared.record.Pins.{Pins}
use Rattle.numerals.specs.Bytes.{byte_of, half_at, low_byte, low_first_at, put_four, put_fours}
use Rattle.numerals.specs.Digits.{digit_of, mode_digit, mode_of, read_before, read_rise_of, setup_digit, setup_of, shown_offset, shows_of, view_digit, view_of, write_before, write_rise_of}
use Rattle.numerals.specs.DigitsLaws.{digit_back, method_back, mode_back, next_back, offset_back, read_before_back, read_rose_back, setup_back, shown_back, view_back, write_before_back, write_rose_back}
use Rattle.spelling.specs.Spelling.{blank_elsewhere, counts_of, enables_in, enables_of, enums_of, four_levels, level_at, levels_of, offsets_in, put_clocks, put_remembered, read_in, reading_in, rest_of, spelled_digits, spelling, spells, state_bytes, state_in, write_in}

-- the first elements of a list, one by one
abbrev listed : ℕ → (ℕ → ℕ) → List ℕ
listed zero at = []
listed (suc many) at = at 0 ∷ listed many (λ i. at (suc i))

one_by_one : (many : ℕ) (bytes : List ℕ) → length bytes ≡ many → bytes ≡ listed many (λ i. get_or bytes i 0)
one_by_one zero [] e = refl
one_by_one zero (x ∷ xs) e = absurd (omega arith)
one_by_one (suc many) [] e = absurd (omega arith)
one_by_one (suc many) (x ∷ xs) e = ap (λ (l : List ℕ). x ∷ l) (one_by_one many xs (omega arith))

-- whatever stood there before
pub put_over : (s : State) (bytes : List ℕ) → length bytes ≡ state_bytes
    → put_fours 48 (enables_of s.enables) (put_fours 32 (rest_of s) (put_fours 16 (counts_of s) (put_fours 12 (enums_of s) (put_fours 0 (levels_of s) bytes)))) ≡ spelling s
unfolding put_four spelling
put_over s bytes e = rw (one_by_one state_bytes bytes e) refl

-- where no clock rises only what is remembered of the pins is other bytes
pub remembered_put : (p : Pins) (s : State) → put_remembered p.wclk p.rclk (enables_after p s.enables) (spelling s) ≡ spelling (held p s)
unfolding put_four put_clocks put_remembered spelling held
remembered_put p s = refl

pub spelling_length : (s : State) → length (spelling s) ≡ state_bytes
unfolding spelling
spelling_length s = refl

abbrev pub Bytes : List ℕ → Type 0
Bytes bytes = (i : ℕ) → get_or bytes i 0 < 2 ^ 8

module _ (bytes : List ℕ) (h : Bytes bytes) (i : ℕ) where
  half_low : low_byte (half_at bytes i) ≡ get_or bytes i 0
  unfolding half_at
  half_low = omega (arith, h i, h (i + 1))

  half_high : byte_of 8 (half_at bytes i) ≡ get_or bytes (i + 1) 0
  unfolding half_at
  half_high = omega (arith, h i, h (i + 1))

  first_byte : low_byte (low_first_at bytes i) ≡ get_or bytes i 0
  unfolding low_first_at
  first_byte = omega (arith, h i, h (i + 1), h (i + 2), h (i + 3))

  second_byte : byte_of 8 (low_first_at bytes i) ≡ get_or bytes (i + 1) 0
  unfolding low_first_at
  second_byte = omega (arith, h i, h (i + 1), h (i + 2), h (i + 3))

  third_byte : byte_of 16 (low_first_at bytes i) ≡ get_or bytes (i + 2) 0
  unfolding low_first_at
  third_byte = omega (arith, h i, h (i + 1), h (i + 2), h (i + 3))

  fourth_byte : byte_of 24 (low_first_at bytes i) ≡ get_or bytes (i + 3) 0
  unfolding low_first_at
  fourth_byte = omega (arith, h i, h (i + 1), h (i + 2), h (i + 3))

-- four digits that are levels, each written back as it was read
record Levels (bytes : List ℕ) (i : ℕ) : Type 0 where
  first : digit_of (level_at bytes i) ≡ get_or bytes i 0
  second : digit_of (level_at bytes (i + 1)) ≡ get_or bytes (i + 1) 0
  third : digit_of (level_at bytes (i + 2)) ≡ get_or bytes (i + 2) 0
  fourth : digit_of (level_at bytes (i + 3)) ≡ get_or bytes (i + 3) 0

levels : (bytes : List ℕ) (i : ℕ) → four_levels bytes i ≡ true → Levels bytes i
unfolding four_levels level_at
levels bytes i e =
    let fourth = both _ _ e in
    let third = both _ _ fourth.0 in
    let second = both _ _ third.0 in
    record {
      first = digit_back _ (ltb-true _ 2 second.0);
      second = digit_back _ (ltb-true _ 2 second.1);
      third = digit_back _ (ltb-true _ 2 third.1);
      fourth = digit_back _ (ltb-true _ 2 fourth.1);
    }

-- the four at once, as one word
pub levels_of_word : (bytes : List ℕ) (i : ℕ) → Bytes bytes
    → let word = low_first_at bytes i in (ltb (low_byte word) 2 && ltb (byte_of 8 word) 2 && ltb (byte_of 16 word) 2 && ltb (byte_of 24 word) 2) ≡ four_levels bytes i
unfolding four_levels
levels_of_word bytes i h = rw (first_byte bytes h i, second_byte bytes h i, third_byte bytes h i, fourth_byte bytes h i) refl

-- what a spelling says of its bytes
record Own (bytes : List ℕ) : Type 0 where
  start : Levels bytes 0
  flags : Levels bytes 4
  offsets : Levels bytes 8
  enables : Levels bytes 48
  view : view_digit (view_of (get_or bytes 12 0)) ≡ get_or bytes 12 0
  setup : setup_digit (setup_of (get_or bytes 13 0)) ≡ get_or bytes 13 0
  read : read_before (read_rise_of (level_at bytes 4) (half_at bytes 22)) ≡ half_at bytes 22
  write : write_before (write_rise_of (level_at bytes 5) (half_at bytes 30)) ≡ half_at bytes 30
  shown : shown_offset (shows_of (level_at bytes 11) (half_at bytes 40)) ≡ half_at bytes 40
  blank : half_at bytes 42 ≡ 0

own : (bytes : List ℕ) → spells bytes ≡ true → Own bytes
unfolding spells spelled_digits blank_elsewhere
own bytes e =
    let all = both (spelled_digits bytes) (blank_elsewhere bytes) e in
    let setup = both _ _ (both _ _ all.0).0 in
    let view = both _ _ setup.0 in
    let enables = both _ _ view.0 in
    let offsets = both _ _ enables.0 in
    let flags = both (four_levels bytes 0) (four_levels bytes 4) offsets.0 in
    let blank = both _ _ all.1 in
    let shown = both _ _ blank.0 in
    let sides = both (level_at bytes 4 || eqb (half_at bytes 22) 0) (level_at bytes 5 || eqb (half_at bytes 30) 0) shown.0 in
    record {
      start = levels bytes 0 flags.0;
      flags = levels bytes 4 flags.1;
      offsets = levels bytes 8 offsets.1;
      enables = levels bytes 48 enables.1;
      view = view_back _ (ltb-true _ 3 view.1);
      setup = setup_back _ (ltb-true _ 3 setup.1);
      read = read_before_back (half_at bytes 22) (level_at bytes 4) sides.0;
      write = write_before_back (half_at bytes 30) (level_at bytes 5) sides.1;
      shown = shown_back (half_at bytes 40) (level_at bytes 11) shown.1;
      blank = eqb-true (half_at bytes 42) 0 blank.1;
    }

-- what was read is written back as the same bytes
pub written_back : (bytes : List ℕ) → length bytes ≡ state_bytes → Bytes bytes → spells bytes ≡ true → spelling (state_in bytes) ≡ bytes
unfolding spelling spells spelled_digits state_in write_in read_in offsets_in reading_in enables_in
written_back bytes room h e =
    let o = own bytes e in
    let last = both _ _ (both (spelled_digits bytes) (blank_elsewhere bytes) e).0 in
    let mode : mode_digit (mode_of (get_or bytes 14 0)) ≡ get_or bytes 14 0 = mode_back _ (ltb-true _ 3 last.1) in
    let a = o.start in
    let b = o.flags in
    let c = o.offsets in
    let d = o.enables in
    let blank : get_or bytes 42 0 ≡ 0 = sym (half_low bytes h 42) ∙ ap low_byte o.blank in
    let unused : get_or bytes 43 0 ≡ 0 = sym (half_high bytes h 42) ∙ ap (byte_of 8) o.blank in
    let same : spelling (state_in bytes) ≡ listed state_bytes (λ i. get_or bytes i 0) = simp (
      read_rose_back,
      write_rose_back,
      method_back,
      next_back,
      offset_back,
      a.first,
      a.second,
      a.third,
      a.fourth,
      b.first,
      b.second,
      b.third,
      b.fourth,
      c.first,
      c.second,
      c.third,
      c.fourth,
      d.first,
      d.second,
      d.third,
      d.fourth,
      o.view,
      o.setup,
      mode,
      o.read,
      o.write,
      o.shown,
      half_low bytes h,
      half_high bytes h,
      first_byte bytes h,
      second_byte bytes h,
      third_byte bytes h,
      fourth_byte bytes h,
      blank,
      unused,
    ) in
    same ∙ sym (one_by_one state_bytes bytes room)
