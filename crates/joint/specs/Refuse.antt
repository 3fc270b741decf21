-- Two parts side by side: 11 by the two records, and then the number that each part has for its own.
use Rattle.std.specs.Prelude.{ℕ, ◌/◌, ◌^◌, Bool, cond, eqb}

-- every pin but D and the marks: bits 31 to 21
abbrev pub same_pins : ℕ → ℕ → Bool
same_pins left right = eqb (left / 2 ^ 21) (right / 2 ^ 21)

-- the left part's number, the right part's where the left has none
abbrev pub first_of : ℕ → ℕ → ℕ
first_of left right = cond (eqb left 0) right left

-- 11, then all that the left part refuses before all that the right part does
abbrev pub numbered : Bool → ℕ → ℕ → ℕ
numbered same left right = cond same (first_of left right) 11
