-- The state's bytes, its levels and enums: each as a digit.
use Rattle.std.specs.Prelude.{ℕ, ◌%◌, Bool, true, false, cond, eqb, Option, Some, None}
use Rattle.counts.specs.declared.round.WriteCount.{WriteCount}
use Rattle.counts.specs.declared.round.ReadCount.{ReadCount}
use Rattle.offsets.specs.declared.registers.Method.{Method}
use Rattle.offsets.specs.declared.registers.Method.TheVariants.{Parallel, Serial}
use Rattle.offsets.specs.declared.registers.Next.{Next}
use Rattle.offsets.specs.declared.registers.Next.TheVariants.{N, M}
use Rattle.sides.specs.declared.read.Mode.{Mode}
use Rattle.sides.specs.declared.read.Mode.TheVariants.{Standard, Fwft}
use Rattle.views.specs.declared.retransmit.Setup.{Setup}
use Rattle.views.specs.declared.retransmit.Setup.TheVariants.{Over, OneMore, TwoMore}
use Rattle.views.specs.declared.retransmit.View.{View}
use Rattle.views.specs.declared.retransmit.View.TheVariants.{Unseen, Taken, Seen}

abbrev pub digit_of : Bool → ℕ
digit_of level = cond level 1 0

abbrev pub level_of : ℕ → Bool
level_of digit = eqb (digit % 2) 1

abbrev pub view_digit : View → ℕ
view_digit Unseen = 0
view_digit Taken = 1
view_digit Seen = 2

abbrev pub view_of : ℕ → View
view_of digit = cond (eqb digit 0) Unseen (cond (eqb digit 1) Taken Seen)

abbrev pub setup_digit : Setup → ℕ
setup_digit Over = 0
setup_digit OneMore = 1
setup_digit TwoMore = 2

abbrev pub setup_of : ℕ → Setup
setup_of digit = cond (eqb digit 0) Over (cond (eqb digit 1) OneMore TwoMore)

abbrev pub mode_digit : Mode → ℕ
mode_digit Standard = 0
mode_digit (Fwft untaken) = cond untaken 2 1

abbrev pub mode_of : ℕ → Mode
mode_of digit = cond (eqb digit 0) Standard (Fwft (eqb digit 2))

abbrev pub is_serial : Method → Bool
is_serial Parallel = false
is_serial Serial = true

abbrev pub is_m : Next → Bool
is_m N = false
is_m M = true

abbrev pub next_of : Bool → Next
next_of second = cond second M N

-- the number beside the digit or 0, and both put together again
abbrev pub number_before : {Count : Type 0} → (Count → ℕ) → Option Count → ℕ
number_before number None = 0
number_before number (Some count) = number count

abbrev pub rise_of : {Count : Type 0} → (ℕ → Count) → Bool → ℕ → Option Count
rise_of counting rose number = cond rose (Some (counting number)) None

abbrev pub read_before : Option ReadCount → ℕ
read_before = number_before (λ (count : ReadCount). count.0)

abbrev pub read_rise_of : Bool → ℕ → Option ReadCount
read_rise_of = rise_of (λ n. record { 0 = n })

abbrev pub write_before : Option WriteCount → ℕ
write_before = number_before (λ (count : WriteCount). count.0)

abbrev pub write_rise_of : Bool → ℕ → Option WriteCount
write_rise_of = rise_of (λ n. record { 0 = n })

abbrev pub shows_offset : Option ℕ → Bool
shows_offset None = false
shows_offset (Some offset) = true

abbrev pub shown_offset : Option ℕ → ℕ
shown_offset None = 0
shown_offset (Some offset) = offset

abbrev pub shows_of : Bool → ℕ → Option ℕ
shows_of offset shown = cond offset (Some shown) None
