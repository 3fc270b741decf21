-- The state's bytes: each state is read back as it was written.
use Rattle.std.specs.Prelude.{ℕ, zero, suc, ◌+◌, ◌*◌, ◌^◌, ◌<◌, Bool, true, false, ◌&&◌, List, [], ◌∷◌, ◌++◌, ◌≡◌, refl, get_or, Option, Some, None, is_some}
use Rattle.counts.specs.declared.round.WriteCount.{WriteCount}
use Rattle.counts.specs.declared.round.ReadCount.{ReadCount}
use Rattle.std.proofs.Common.{lt-ltb, ltb-true, arith}
use Rattle.chip.specs.declared.state.State.{State}
use Rattle.chip.specs.Counted.{Counted, power_up_counted, ReadRemembered, WriteRemembered}
use Rattle.chip.specs.Reset.{powered_up}
use Rattle.chip.specs.ResetLaws.{power_up_passes}
use Rattle.chip.specs.State.{widths}
use Rattle.chip.specs.Widths.{apart, tested_widths}
use Rattle.counts.specs.declared.part.Part.{Part}
use Rattle.counts.specs.declared.part.Part.TheVariants.{Idt72V255LA, Idt72V265LA}
use Rattle.counts.specs.Part.{offset_bits}
use Rattle.offsets.specs.Fits.{few_bits, fits, serial_small}
use Rattle.offsets.specs.Reading.{shown_fits}
use Rattle.numerals.specs.BytesLaws.{word_again}
use Rattle.numerals.specs.Bytes.{Four, byte_of, half_at, in_order, low_byte, low_first, low_first_at, pair}
use Rattle.numerals.specs.Digits.{digit_of, is_m, is_serial, mode_digit, read_before, read_rise_of, setup_digit, shown_offset, shows_offset, view_digit, write_before, write_rise_of}
use Rattle.numerals.specs.DigitsLaws.{level_again, level_small, method_again, mode_again, mode_small, next_again, read_blank, read_rise_again, setup_again, setup_small, shows_again, shows_blank, view_again, view_small, write_blank, write_rise_again}
use Rattle.spelling.specs.Spelling.{blank_elsewhere, counts_of, digits, enables_in, enables_of, enums_of, four_levels, level_at, levels_of, offsets_in, read_in, reading_in, rest_of, spelled_digits, spelling, spells, state_in, write_in}
use Rattle.spelling.specs.SpellingLaws.{Bytes}

abbrev HalfWord : ℕ → Type 0
HalfWord number = number < 2 ^ 16

-- what a state's numbers must keep below for its bytes to hold them
record Small (s : State) : Type 0 where
  counts : Counted s
  m : HalfWord s.offsets.m
  n : HalfWord s.offsets.n
  serial : s.offsets.serial < 2 ^ 32
  count : s.offsets.count < 2 ^ 8
  shown : HalfWord (shown_offset s.reading.shows)
  output : s.read.output < 2 ^ 32

read_before_small : (latest : Option ReadCount) → ReadRemembered latest → HalfWord (read_before latest)
read_before_small None h = omega arith
read_before_small (Some count) h = h

write_before_small : (latest : Option WriteCount) → WriteRemembered latest → HalfWord (write_before latest)
write_before_small None h = omega arith
write_before_small (Some count) h = h

half_again : (number : ℕ) → HalfWord number → byte_of 8 number * 2 ^ 8 + low_byte number ≡ number
half_again number h = omega arith

state_again : (s : State) → Small s → state_in (spelling s) ≡ s
unfolding state_in write_in read_in offsets_in reading_in enables_in level_at half_at low_first_at spelling
state_again s h =
    let c = h.counts in
    rw (
      level_again s.started,
      level_again s.write.level,
      level_again s.read.level,
      level_again s.write.wrapped,
      level_again (is_some s.write.latest),
      level_again (is_some s.read.latest),
      level_again s.write.paf,
      level_again s.read.pae,
      level_again (is_serial s.offsets.method),
      level_again (is_m s.offsets.next),
      level_again (is_m s.reading.next),
      level_again (shows_offset s.reading.shows),
      level_again s.enables.rt,
      level_again s.enables.ren,
      level_again s.enables.wen,
      level_again s.enables.clean,
      half_again s.write.count.0 c.write,
      half_again s.write.first.0 c.write_first,
      half_again s.write.second.0 c.write_second,
      half_again (read_before s.write.latest) (read_before_small s.write.latest c.write_latest),
      half_again s.read.count.0 c.read,
      half_again s.read.first.0 c.read_first,
      half_again s.read.second.0 c.read_second,
      half_again (write_before s.read.latest) (write_before_small s.read.latest c.read_latest),
      half_again s.offsets.n h.n,
      half_again s.offsets.m h.m,
      half_again (shown_offset s.reading.shows) h.shown,
      word_again s.offsets.serial h.serial,
      word_again s.read.output h.output,
      read_rise_again s.write.latest,
      write_rise_again s.read.latest,
      shows_again s.reading.shows,
      view_again s.write.view,
      setup_again s.read.setup,
      mode_again s.read.mode,
      method_again s.offsets.method,
      next_again s.offsets.next,
      next_again s.reading.next,
    )
    refl

four_levels_lem : (bytes : List ℕ) (i : ℕ) → get_or bytes i 0 < 2 → get_or bytes (i + 1) 0 < 2 → get_or bytes (i + 2) 0 < 2 → get_or bytes (i + 3) 0 < 2
    → four_levels bytes i ≡ true
unfolding four_levels
four_levels_lem bytes i a b c d =
    simp (lt-ltb (get_or bytes i 0) 2 a, lt-ltb (get_or bytes (i + 1) 0) 2 b, lt-ltb (get_or bytes (i + 2) 0) 2 c, lt-ltb (get_or bytes (i + 3) 0) 2 d)

all_levels : (s : State)
    → four_levels (spelling s) 0 && four_levels (spelling s) 4 && four_levels (spelling s) 8 && four_levels (spelling s) 48 ≡ true
unfolding spelling
all_levels s =
    simp (
      four_levels_lem (spelling s) 0 (level_small s.started) (level_small s.write.level) (level_small s.read.level) (level_small s.write.wrapped),
      four_levels_lem (spelling s) 4 (level_small (is_some s.write.latest)) (level_small (is_some s.read.latest)) (level_small s.write.paf) (level_small s.read.pae),
      four_levels_lem (spelling s) 8 (level_small (is_serial s.offsets.method)) (level_small (is_m s.offsets.next)) (level_small (is_m s.reading.next))
          (level_small (shows_offset s.reading.shows)),
      four_levels_lem (spelling s) 48 (level_small s.enables.rt) (level_small s.enables.ren) (level_small s.enables.wen) (level_small s.enables.clean),
    )

both_true : {a b : Bool} → a ≡ true → b ≡ true → a && b ≡ true
both_true e f = simp (e, f)

own_digits : (s : State) → spelled_digits (spelling s) ≡ true
unfolding spelled_digits spelling
own_digits s =
    both_true
    (both_true (both_true (all_levels s) (lt-ltb (view_digit s.write.view) 3 (view_small s.write.view)))
    (lt-ltb (setup_digit s.read.setup) 3 (setup_small s.read.setup)))
    (lt-ltb (mode_digit s.read.mode) _ (let h = mode_small s.read.mode in omega (arith, h)))

own_blanks : (s : State) → Small s → blank_elsewhere (spelling s) ≡ true
unfolding blank_elsewhere level_at half_at spelling
own_blanks s h =
    simp (
      level_again (is_some s.write.latest),
      half_again (read_before s.write.latest) (read_before_small s.write.latest h.counts.write_latest),
      read_blank s.write.latest,
      level_again (is_some s.read.latest),
      half_again (write_before s.read.latest) (write_before_small s.read.latest h.counts.read_latest),
      write_blank s.read.latest,
      level_again (shows_offset s.reading.shows),
      half_again (shown_offset s.reading.shows) h.shown,
      shows_blank s.reading.shows,
    )

-- bytes spell a state
pub record Spelled (bytes : List ℕ) (s : State) : Type 0 where
  pub own : spells bytes ≡ true
  pub state : state_in bytes ≡ s

narrow : (part : Part) → 2 ^ offset_bits part < 2 ^ 16
narrow Idt72V255LA = omega arith
narrow Idt72V265LA = omega arith

shown_small : (part : Part) (shows : Option ℕ) → shown_fits part shows ≡ true → HalfWord (shown_offset shows)
shown_small part None e = omega arith
shown_small part (Some offset) e = let h = ltb-true offset (2 ^ offset_bits part) e in let bits = narrow part in omega arith

small : (part : Part) (s : State) → widths part s ≡ true → Counted s → Small s
small part s e counts =
    let w = apart part s e in
    let o = fits part s.offsets w.offsets in
    let bits = narrow part in
    let few = few_bits part in
    let serial = serial_small part s.offsets w.offsets in
    let output = ltb-true s.read.output (2 ^ 18) w.output in
    record {
      counts = counts;
      m = omega arith;
      n = omega arith;
      serial = omega arith;
      count = omega arith;
      shown = shown_small part s.reading.shows w.shown;
      output = omega arith;
    }

-- numbers that are bytes, one by one and in fours
abbrev AllBytes : List ℕ → Type 0
AllBytes [] = Unit {0}
AllBytes (x ∷ xs) = (x < 2 ^ 8) × AllBytes xs

each_byte : (bytes : List ℕ) → AllBytes bytes → Bytes bytes
each_byte [] all i = omega arith
each_byte (x ∷ xs) all zero = all.0
each_byte (x ∷ xs) all (suc i) = each_byte xs all.1 i

record FourBytes (four : Four) : Type 0 where
  first : four.first < 2 ^ 8
  second : four.second < 2 ^ 8
  third : four.third < 2 ^ 8
  fourth : four.fourth < 2 ^ 8

abbrev AllFours : List Four → Type 0
AllFours [] = Unit {0}
AllFours (four ∷ more) = FourBytes four × AllFours more

in_order_bytes : (fours : List Four) → AllFours fours → AllBytes (in_order fours)
in_order_bytes [] all = tt
in_order_bytes (four ∷ more) all =
    let h = all.0 in
    (h.first, (h.second, (h.third, (h.fourth, in_order_bytes more all.1))))

level_byte : (level : Bool) → digit_of level < 2 ^ 8
level_byte level = let h = level_small level in omega arith

digits_bytes : (a b c d : Bool) → FourBytes (digits a b c d)
digits_bytes a b c d = record { first = level_byte a; second = level_byte b; third = level_byte c; fourth = level_byte d }

pair_bytes : (a b : ℕ) → FourBytes (pair a b)
pair_bytes a b = record { first = omega arith; second = omega arith; third = omega arith; fourth = omega arith }

word_bytes : (word : ℕ) → FourBytes (low_first word)
word_bytes word = record { first = omega arith; second = omega arith; third = omega arith; fourth = omega arith }

enums_bytes : (s : State) → Small s → AllFours (enums_of s)
enums_bytes s h =
    let view = view_small s.write.view in
    let setup = setup_small s.read.setup in
    let mode = mode_small s.read.mode in
    (record { first = omega arith; second = omega arith; third = omega arith; fourth = h.count }, tt)

levels_bytes : (s : State) → AllFours (levels_of s)
levels_bytes s =
    let start = digits_bytes s.started s.write.level s.read.level s.write.wrapped in
    let flags = digits_bytes (is_some s.write.latest) (is_some s.read.latest) s.write.paf s.read.pae in
    let offsets = digits_bytes (is_serial s.offsets.method) (is_m s.offsets.next) (is_m s.reading.next) (shows_offset s.reading.shows) in
    (start, (flags, (offsets, tt)))

all_fours : (s : State) → Small s → AllFours (levels_of s ++ enums_of s ++ counts_of s ++ rest_of s ++ enables_of s.enables)
all_fours s h =
    let levels = levels_bytes s in
    let enables = digits_bytes s.enables.rt s.enables.ren s.enables.wen s.enables.clean in
    let rest : AllFours (rest_of s ++ enables_of s.enables) = (pair_bytes _ _, (word_bytes _, (pair_bytes _ 0, (word_bytes _, (enables, tt))))) in
    let counts : AllFours (counts_of s ++ rest_of s ++ enables_of s.enables) = (pair_bytes _ _, (pair_bytes _ _, (pair_bytes _ _, (pair_bytes _ _, rest)))) in
    (levels.0, (levels.1.0, (levels.1.1.0, ((enums_bytes s h).0, counts))))

module _ (part : Part) (s : State) (e : widths part s ≡ true) (counts : Counted s) where
  bounds : Small s
  bounds = small part s e counts

  pub spelling_bytes : Bytes (spelling s)
  unfolding spelling
  spelling_bytes = each_byte (spelling s) (in_order_bytes (levels_of s ++ enums_of s ++ counts_of s ++ rest_of s ++ enables_of s.enables) (all_fours s bounds))

  -- a state that passes the widths, its counts of 16 bits, is read back as it was written
  pub read_back : Spelled (spelling s) s
  unfolding spells
  read_back = record { own = simp (own_digits s, own_blanks s bounds); state = state_again s bounds }

power_up_widths : widths Idt72V255LA powered_up ≡ true
power_up_widths = tested_widths Idt72V255LA powered_up (power_up_passes Idt72V255LA)

pub power_up_read : Spelled (spelling powered_up) powered_up
power_up_read = read_back Idt72V255LA powered_up power_up_widths power_up_counted

pub power_up_bytes : Bytes (spelling powered_up)
power_up_bytes = spelling_bytes Idt72V255LA powered_up power_up_widths power_up_counted

half_small : (bytes : List ℕ) (i : ℕ) → Bytes bytes → HalfWord (half_at bytes i)
unfolding half_at
half_small bytes i h = omega (arith, h i, h (i + 1))

read_rise_small : (rose : Bool) (count : ℕ) → HalfWord count → ReadRemembered (read_rise_of rose count)
read_rise_small true count h = h
read_rise_small false count h = tt

write_rise_small : (rose : Bool) (count : ℕ) → HalfWord count → WriteRemembered (write_rise_of rose count)
write_rise_small true count h = h
write_rise_small false count h = tt

pub counted_in : (bytes : List ℕ) → Bytes bytes → Counted (state_in bytes)
unfolding state_in write_in read_in
counted_in bytes h = record {
  write = half_small bytes 16 h;
  write_first = half_small bytes 18 h;
  write_second = half_small bytes 20 h;
  write_latest = read_rise_small (level_at bytes 4) (half_at bytes 22) (half_small bytes 22 h);
  read = half_small bytes 24 h;
  read_first = half_small bytes 26 h;
  read_second = half_small bytes 28 h;
  read_latest = write_rise_small (level_at bytes 5) (half_at bytes 30) (half_small bytes 30 h);
}
