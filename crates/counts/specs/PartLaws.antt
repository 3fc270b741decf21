-- Parts and paper authority, and Offsets: a part is looked up by its own number and by no other, its sizes in figures, and the width of the counts
-- is a multiple of its depth.
use Rattle.std.specs.Prelude.{◌≡◌, ℕ, ◌+◌, ◌^◌, ◌≤◌, Bool, true, false, cond, ◌==◌, ◌≢◌, refl, Some, None}
use Rattle.std.proofs.Common.{pow_mono, arith, eqb-true}
use Rattle.counts.specs.declared.part.Part.{Part}
use Rattle.counts.specs.declared.part.Part.TheVariants.{Idt72V255LA, Idt72V265LA}
use Rattle.counts.specs.Part.{depth_of, number_of, offset_bits, part_of, place_bits, serial_bits}
use Rattle.counts.specs.Round.{width}

pub own_number : (part : Part) → part_of (number_of part) ≡ Some part
own_number Idt72V255LA = refl
own_number Idt72V265LA = refl

no_part : (part : Part) → None ≢ Some part
no_part part e = let z : ◌≡◌ {A = ℕ} 0 1 = cc in omega arith

known_by : (number : ℕ) (part : Part) (is255 is265 : Bool) → (number == 255) ≡ is255 → (number == 265) ≡ is265
    → cond is255 (Some Idt72V255LA) (cond is265 (Some Idt72V265LA) None) ≡ Some part → number ≡ number_of part
known_by number Idt72V255LA true is265 e f k = eqb-true _ _ e
known_by number Idt72V265LA true is265 e f k = let z : ◌≡◌ {A = ℕ} 0 1 = cc in omega arith
known_by number Idt72V255LA false true e f k = let z : ◌≡◌ {A = ℕ} 0 1 = cc in omega arith
known_by number Idt72V265LA false true e f k = eqb-true _ _ f
known_by number part false false e f k = absurd (no_part part k)

pub no_other_number : (number : ℕ) (part : Part) → part_of number ≡ Some part → number ≡ number_of part
no_other_number number part = known_by number part (number == 255) (number == 265) refl refl

-- the low 16 bits of this number are 255
pub compared_in_full : part_of 65791 ≡ None
compared_in_full = refl

pub in_figures : (depth_of Idt72V255LA ≡ 8192) × (offset_bits Idt72V255LA ≡ 13) × (serial_bits Idt72V255LA ≡ 26)
    × (depth_of Idt72V265LA ≡ 16384) × (offset_bits Idt72V265LA ≡ 14) × (serial_bits Idt72V265LA ≡ 28)
in_figures = (refl, refl, refl, refl, refl, refl)

sizes : (part : Part) → (1 ≤ place_bits part) × (place_bits part ≤ 14) × (offset_bits part ≤ 14)
sizes Idt72V255LA = omega arith
sizes Idt72V265LA = omega arith

pub offset_bits_lem : (part : Part) → offset_bits part ≤ 14
offset_bits_lem part = (sizes part).2

-- any power of two above 1, and no higher than the 14th
power_bounds : (k : ℕ) → 1 ≤ k → k ≤ 14 → (2 ≤ 2 ^ k) × (2 ^ k ≤ 2 ^ 14)
power_bounds k h l = (pow_mono {i = 1} {j = k} h, pow_mono {i = k} {j = 14} l)

depth_bounds : (part : Part) → (2 ≤ depth_of part) × (depth_of part ≤ 2 ^ 14)
depth_bounds part = let bits = sizes part in power_bounds (place_bits part) bits.0 bits.1

pub two_at_least : (part : Part) → 2 ≤ depth_of part
two_at_least part = (depth_bounds part).0

pub deepest : (part : Part) → depth_of part ≤ 2 ^ 14
deepest part = (depth_bounds part).1

-- bits of a count beyond those of a place
abbrev pub round_bits : Part → ℕ
round_bits Idt72V255LA = 3
round_bits Idt72V265LA = 2

pub whole_rounds : (part : Part) → (1 ≤ round_bits part) × (2 ^ (round_bits part + place_bits part) ≡ width)
whole_rounds Idt72V255LA = (omega arith, refl)
whole_rounds Idt72V265LA = (omega arith, refl)
