-- The state's bytes, its digits: what was written as a digit is read back, and the other way round.
use Rattle.std.specs.Prelude.{ℕ, zero, suc, ◌<◌, Bool, true, false, ◌||◌, ◌≡◌, refl, eqb, Option, Some, None, is_some}
use Rattle.counts.specs.declared.round.WriteCount.{WriteCount}
use Rattle.counts.specs.declared.round.ReadCount.{ReadCount}
use Rattle.std.proofs.Common.{sym, eqb-true, arith}
use Rattle.offsets.specs.declared.registers.Method.{Method}
use Rattle.offsets.specs.declared.registers.Method.TheVariants.{Parallel, Serial}
use Rattle.offsets.specs.declared.registers.Next.{Next}
use Rattle.offsets.specs.declared.registers.Next.TheVariants.{N, M}
use Rattle.offsets.specs.Registers.{method_of}
use Rattle.sides.specs.declared.read.Mode.{Mode}
use Rattle.sides.specs.declared.read.Mode.TheVariants.{Standard, Fwft}
use Rattle.views.specs.declared.retransmit.Setup.{Setup}
use Rattle.views.specs.declared.retransmit.Setup.TheVariants.{Over, OneMore, TwoMore}
use Rattle.views.specs.declared.retransmit.View.{View}
use Rattle.views.specs.declared.retransmit.View.TheVariants.{Unseen, Taken, Seen}
use Rattle.numerals.specs.Digits.{digit_of, is_m, is_serial, level_of, mode_digit, mode_of, next_of, read_before, read_rise_of, setup_digit, setup_of, shown_offset, shows_of, shows_offset, view_digit, view_of, write_before, write_rise_of}

-- read back as it was written
pub level_again : (level : Bool) → level_of (digit_of level) ≡ level
level_again true = refl
level_again false = refl

pub view_again : (view : View) → view_of (view_digit view) ≡ view
view_again Unseen = refl
view_again Taken = refl
view_again Seen = refl

pub setup_again : (setup : Setup) → setup_of (setup_digit setup) ≡ setup
setup_again Over = refl
setup_again OneMore = refl
setup_again TwoMore = refl

pub mode_again : (mode : Mode) → mode_of (mode_digit mode) ≡ mode
mode_again Standard = refl
mode_again (Fwft true) = refl
mode_again (Fwft false) = refl

pub method_again : (method : Method) → method_of (is_serial method) ≡ method
method_again Parallel = refl
method_again Serial = refl

pub next_again : (next : Next) → next_of (is_m next) ≡ next
next_again N = refl
next_again M = refl

pub read_rise_again : (latest : Option ReadCount) → read_rise_of (is_some latest) (read_before latest) ≡ latest
read_rise_again None = refl
read_rise_again (Some count) = refl

pub write_rise_again : (latest : Option WriteCount) → write_rise_of (is_some latest) (write_before latest) ≡ latest
write_rise_again None = refl
write_rise_again (Some count) = refl

pub shows_again : (shows : Option ℕ) → shows_of (shows_offset shows) (shown_offset shows) ≡ shows
shows_again None = refl
shows_again (Some offset) = refl

-- within their limits, and blank where they must be
pub level_small : (level : Bool) → digit_of level < 2
level_small true = omega arith
level_small false = omega arith

pub view_small : (view : View) → view_digit view < 3
view_small Unseen = omega arith
view_small Taken = omega arith
view_small Seen = omega arith

pub setup_small : (setup : Setup) → setup_digit setup < 3
setup_small Over = omega arith
setup_small OneMore = omega arith
setup_small TwoMore = omega arith

pub mode_small : (mode : Mode) → mode_digit mode < 3
mode_small Standard = omega arith
mode_small (Fwft true) = omega arith
mode_small (Fwft false) = omega arith

pub read_blank : (latest : Option ReadCount) → (is_some latest || eqb (read_before latest) 0) ≡ true
read_blank None = refl
read_blank (Some count) = refl

pub write_blank : (latest : Option WriteCount) → (is_some latest || eqb (write_before latest) 0) ≡ true
write_blank None = refl
write_blank (Some count) = refl

pub shows_blank : (shows : Option ℕ) → (shows_offset shows || eqb (shown_offset shows) 0) ≡ true
shows_blank None = refl
shows_blank (Some offset) = refl

-- written back as it was read, where the digit is within its limit
pub digit_back : (digit : ℕ) → digit < 2 → digit_of (level_of digit) ≡ digit
digit_back zero h = refl
digit_back (suc zero) h = refl
digit_back (suc (suc digit)) h = absurd (omega arith)

pub view_back : (digit : ℕ) → digit < 3 → view_digit (view_of digit) ≡ digit
view_back zero h = refl
view_back (suc zero) h = refl
view_back (suc (suc zero)) h = refl
view_back (suc (suc (suc digit))) h = absurd (omega arith)

pub setup_back : (digit : ℕ) → digit < 3 → setup_digit (setup_of digit) ≡ digit
setup_back zero h = refl
setup_back (suc zero) h = refl
setup_back (suc (suc zero)) h = refl
setup_back (suc (suc (suc digit))) h = absurd (omega arith)

pub mode_back : (digit : ℕ) → digit < 3 → mode_digit (mode_of digit) ≡ digit
mode_back zero h = refl
mode_back (suc zero) h = refl
mode_back (suc (suc zero)) h = refl
mode_back (suc (suc (suc digit))) h = absurd (omega arith)

pub method_back : (serial : Bool) → is_serial (method_of serial) ≡ serial
method_back true = refl
method_back false = refl

pub next_back : (second : Bool) → is_m (next_of second) ≡ second
next_back true = refl
next_back false = refl

module _ (count : ℕ) where
  pub read_rose_back : (rose : Bool) → is_some (read_rise_of rose count) ≡ rose
  read_rose_back true = refl
  read_rose_back false = refl

  pub read_before_back : (rose : Bool) → (rose || eqb count 0) ≡ true → read_before (read_rise_of rose count) ≡ count
  read_before_back true e = refl
  read_before_back false e = sym (eqb-true count 0 e)

  pub write_rose_back : (rose : Bool) → is_some (write_rise_of rose count) ≡ rose
  write_rose_back true = refl
  write_rose_back false = refl

  pub write_before_back : (rose : Bool) → (rose || eqb count 0) ≡ true → write_before (write_rise_of rose count) ≡ count
  write_before_back true e = refl
  write_before_back false e = sym (eqb-true count 0 e)

  pub offset_back : (offset : Bool) → shows_offset (shows_of offset count) ≡ offset
  offset_back true = refl
  offset_back false = refl

  pub shown_back : (offset : Bool) → (offset || eqb count 0) ≡ true → shown_offset (shows_of offset count) ≡ count
  shown_back true e = refl
  shown_back false e = sym (eqb-true count 0 e)
