-- Parts and paper authority.
use Rattle.std.specs.Prelude.{ℕ, ◌*◌, ◌/◌, ◌%◌, ◌^◌, Bool, cond, Option, None, Some, ◌==◌, nat_lt}
use Rattle.counts.specs.declared.part.Part.{Part}
use Rattle.counts.specs.declared.part.Part.TheVariants.{Idt72V255LA, Idt72V265LA}

-- the number that a part is asked for by
abbrev pub number_of : Part → ℕ
number_of Idt72V255LA = 255
number_of Idt72V265LA = 265

abbrev pub part_of : ℕ → Option Part
part_of number =
    cond (number == number_of Idt72V255LA) (Some Idt72V255LA)
    (cond (number == number_of Idt72V265LA) (Some Idt72V265LA) None)

-- by whether a number is a part's
abbrev pub by_part : {A : Type 0} → Option Part → (Part → A) → A → A
by_part (Some part) known unknown = known part
by_part None known unknown = unknown

-- a place in memory is told by this many bits
abbrev pub place_bits : Part → ℕ
place_bits Idt72V255LA = 13
place_bits Idt72V265LA = 14

abbrev pub depth_of : Part → ℕ
depth_of part = 2 ^ place_bits part

-- Offsets: how wide one is
abbrev pub offset_bits : Part → ℕ
offset_bits Idt72V255LA = 13
offset_bits Idt72V265LA = 14

-- Offsets: both together, as loaded bit by bit
abbrev pub serial_bits : Part → ℕ
serial_bits part = 2 * offset_bits part

abbrev pub low_bits : ℕ → ℕ → ℕ
low_bits bits x = x % 2 ^ bits

-- what is left above the low bits
abbrev pub above_bits : ℕ → ℕ → ℕ
above_bits bits x = x / 2 ^ bits

abbrev pub within : ℕ → ℕ → Bool
within bits x = nat_lt x (2 ^ bits)
