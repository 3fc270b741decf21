-- The state's bytes, and the one spelling of each state.
use Rattle.std.specs.Prelude.{ℕ, ◌+◌, Bool, ◌&&◌, ◌||◌, List, [], ◌∷◌, ◌++◌, eqb, ltb, get_or, set, is_some}
use Rattle.chip.specs.declared.enables.Enables.{Enables}
use Rattle.chip.specs.declared.state.State.{State}
use Rattle.offsets.specs.declared.reading.Reading.{Reading}
use Rattle.offsets.specs.declared.registers.Offsets.{Offsets}
use Rattle.offsets.specs.Registers.{method_of}
use Rattle.sides.specs.declared.read.ReadSide.{ReadSide}
use Rattle.sides.specs.declared.write.WriteSide.{WriteSide}
use Rattle.numerals.specs.Bytes.{Four, half_at, in_order, low_first, low_first_at, pair, put_fours}
use Rattle.numerals.specs.Digits.{digit_of, is_m, is_serial, level_of, mode_digit, mode_of, next_of, read_before, read_rise_of, setup_digit, setup_of, shown_offset, shows_of, shows_offset, view_digit, view_of, write_before, write_rise_of}

abbrev pub state_bytes : ℕ
state_bytes = 52

-- a byte for each level
abbrev pub digits : Bool → Bool → Bool → Bool → Four
digits first second third fourth = record { first = digit_of first; second = digit_of second; third = digit_of third; fourth = digit_of fourth }

abbrev pub levels_of : State → List Four
levels_of s =
    digits s.started s.write.level s.read.level s.write.wrapped
    ∷ digits (is_some s.write.latest) (is_some s.read.latest) s.write.paf s.read.pae
    ∷ digits (is_serial s.offsets.method) (is_m s.offsets.next) (is_m s.reading.next) (shows_offset s.reading.shows)
    ∷ []

-- a byte for each enum of three values, and one for the number of serial bits
abbrev pub enums_of : State → List Four
enums_of s =
    record { first = view_digit s.write.view; second = setup_digit s.read.setup; third = mode_digit s.read.mode; fourth = s.offsets.count } ∷ []

-- each side's count and stages, with the count remembered for a missed skew
abbrev pub counts_of : State → List Four
counts_of s =
    pair s.write.count.0 s.write.first.0 ∷ pair s.write.second.0 (read_before s.write.latest)
    ∷ pair s.read.count.0 s.read.first.0
    ∷ pair s.read.second.0 (write_before s.read.latest)
    ∷ []

-- the offsets, loaded, loading and shown, and the output register; two bytes are left over
abbrev pub rest_of : State → List Four
rest_of s =
    pair s.offsets.n s.offsets.m ∷ low_first s.offsets.serial ∷ pair (shown_offset s.reading.shows) 0 ∷ low_first s.read.output ∷ []

-- the levels of RT, REN and WEN, and whether RT's last fall was clean
abbrev pub enables_of : Enables → List Four
enables_of enables = digits enables.rt enables.ren enables.wen enables.clean ∷ []

-- how a state is written
unfoldable pub spelling : State → List ℕ
spelling s = in_order (levels_of s ++ enums_of s ++ counts_of s ++ rest_of s ++ enables_of s.enables)

unfoldable pub level_at : List ℕ → ℕ → Bool
level_at bytes at = level_of (get_or bytes at 0)

-- the state that bytes give if they are a spelling at all
unfoldable pub write_in : List ℕ → WriteSide
write_in bytes = record {
  level = level_at bytes 1;
  count = record { 0 = half_at bytes 16 };
  wrapped = level_at bytes 3;
  first = record { 0 = half_at bytes 18 };
  second = record { 0 = half_at bytes 20 };
  latest = read_rise_of (level_at bytes 4) (half_at bytes 22);
  view = view_of (get_or bytes 12 0);
  paf = level_at bytes 6;
}

unfoldable pub read_in : List ℕ → ReadSide
read_in bytes = record {
  level = level_at bytes 2;
  count = record { 0 = half_at bytes 24 };
  first = record { 0 = half_at bytes 26 };
  second = record { 0 = half_at bytes 28 };
  latest = write_rise_of (level_at bytes 5) (half_at bytes 30);
  setup = setup_of (get_or bytes 13 0);
  pae = level_at bytes 7;
  mode = mode_of (get_or bytes 14 0);
  output = low_first_at bytes 44;
}

unfoldable pub offsets_in : List ℕ → Offsets
offsets_in bytes = record {
  n = half_at bytes 32;
  m = half_at bytes 34;
  method = method_of (level_at bytes 8);
  next = next_of (level_at bytes 9);
  serial = low_first_at bytes 36;
  count = get_or bytes 15 0;
}

unfoldable pub reading_in : List ℕ → Reading
reading_in bytes = record { next = next_of (level_at bytes 10); shows = shows_of (level_at bytes 11) (half_at bytes 40) }

unfoldable pub enables_in : List ℕ → Enables
enables_in bytes = record { rt = level_at bytes 48; ren = level_at bytes 49; wen = level_at bytes 50; clean = level_at bytes 51 }

unfoldable pub state_in : List ℕ → State
state_in bytes = record {
  started = level_at bytes 0;
  write = write_in bytes;
  read = read_in bytes;
  offsets = offsets_in bytes;
  reading = reading_in bytes;
  enables = enables_in bytes;
}

-- four bytes that are levels
unfoldable pub four_levels : List ℕ → ℕ → Bool
four_levels bytes at = ltb (get_or bytes at 0) 2 && ltb (get_or bytes (at + 1) 0) 2 && ltb (get_or bytes (at + 2) 0) 2 && ltb (get_or bytes (at + 3) 0) 2

unfoldable pub spelled_digits : List ℕ → Bool
spelled_digits bytes =
    four_levels bytes 0 && four_levels bytes 4 && four_levels bytes 8 && four_levels bytes 48
    && ltb (get_or bytes 12 0) 3 && ltb (get_or bytes 13 0) 3 && ltb (get_or bytes 14 0) 3

-- no count where none is remembered, no offset where none is shown, and two bytes that nothing uses
unfoldable pub blank_elsewhere : List ℕ → Bool
blank_elsewhere bytes =
    (level_at bytes 4 || eqb (half_at bytes 22) 0) && (level_at bytes 5 || eqb (half_at bytes 30) 0) && (level_at bytes 11 || eqb (half_at bytes 40) 0)
    && eqb (half_at bytes 42) 0

-- whether bytes spell a state at all
unfoldable pub spells : List ℕ → Bool
spells bytes = spelled_digits bytes && blank_elsewhere bytes

-- the two clocks' levels alone
unfoldable pub put_clocks : Bool → Bool → List ℕ → List ℕ
put_clocks wclk rclk bytes = set (set bytes 1 (digit_of wclk)) 2 (digit_of rclk)

-- all that is remembered of the pins: the clocks, RT, REN and WEN, and whether RT's last fall was clean
unfoldable pub put_remembered : Bool → Bool → Enables → List ℕ → List ℕ
put_remembered wclk rclk enables bytes = put_fours 48 (enables_of enables) (put_clocks wclk rclk bytes)
