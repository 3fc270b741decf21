-- Source document 000, Tables 1 and 2: the levels of PAF, HF and PAE by the number of words, for any depth.
use Rattle.std.specs.Prelude.{ℕ, ◌+◌, ◌-◌, ◌/◌, Bool, true, false, not, cond, ◌&&◌, eqb, leb, ltb}
use Rattle.views.specs.Flags.{hf_low, pae_low, paf_low}
use Rattle.views.specs.declared.tables.Limits.{Limits}
use Rattle.views.specs.declared.tables.Row.{Row}
use Rattle.views.specs.declared.tables.Row.TheVariants.{Empty, AlmostEmpty, ToHalf, AboveHalf, AlmostFull, Full}
use Rattle.views.specs.declared.tables.Table.{Table}
use Rattle.views.specs.declared.tables.Table.TheVariants.{One, Two}

-- Table 1, of Standard, counts the words in memory; Table 2, of FWFT, also the one in the output register
abbrev pub beyond_memory : Table → ℕ
beyond_memory One = 0
beyond_memory Two = 1

-- the numbers that bound the rows, n, half the depth, the depth less m and the depth, as either table counts
abbrev pub limits_of : ℕ → ℕ → ℕ → ℕ → Limits
limits_of beyond depth n m = record {
  few = n + beyond;
  half = depth / 2 + beyond;
  many = depth - m + beyond;
  full = depth + beyond;
}

-- the rows in the sheet's order, each from its first count ..
abbrev pub first_of : Limits → Row → ℕ
first_of limits Empty = 0
first_of limits AlmostEmpty = 1
first_of limits ToHalf = limits.few + 1
first_of limits AboveHalf = limits.half + 1
first_of limits AlmostFull = limits.many
first_of limits Full = limits.full

-- .. to its last
abbrev pub last_of : Limits → Row → ℕ
last_of limits Empty = 0
last_of limits AlmostEmpty = limits.few
last_of limits ToHalf = limits.half
last_of limits AboveHalf = limits.many - 1
last_of limits AlmostFull = limits.full - 1
last_of limits Full = limits.full

-- the columns in the sheet's order, `true` for H
abbrev pub paf_level : Row → Bool
paf_level Empty = true
paf_level AlmostEmpty = true
paf_level ToHalf = true
paf_level AboveHalf = true
paf_level AlmostFull = false
paf_level Full = false

abbrev pub hf_level : Row → Bool
hf_level Empty = true
hf_level AlmostEmpty = true
hf_level ToHalf = true
hf_level AboveHalf = false
hf_level AlmostFull = false
hf_level Full = false

abbrev pub pae_level : Row → Bool
pae_level Empty = false
pae_level AlmostEmpty = false
pae_level ToHalf = true
pae_level AboveHalf = true
pae_level AlmostFull = true
pae_level Full = true

-- down the rows to the one of a count
unfoldable pub row_of : Limits → ℕ → Row
row_of limits count =
    cond (leb count limits.few) (cond (eqb count 0) Empty AlmostEmpty)
    (cond (leb count limits.half) ToHalf
    (cond (ltb count limits.many) AboveHalf
    (cond (ltb count limits.full) AlmostFull Full)))

-- the rows do not overlap and stand in the sheet's order
abbrev pub in_order : ℕ → ℕ → ℕ → Bool
in_order depth n m = leb n (depth / 2) && ltb (depth / 2) (depth - m)

-- a number of words in memory has one row
abbrev pub has_row : ℕ → ℕ → ℕ → ℕ → Bool
has_row depth n m words = in_order depth n m && leb words depth

-- where a number of words in memory stands in a table
abbrev pub stands_at : ℕ → ℕ → ℕ
stands_at beyond words = words + beyond

abbrev pub row_at : ℕ → ℕ → ℕ → ℕ → ℕ → Row
row_at beyond depth n m words = row_of (limits_of beyond depth n m) (stands_at beyond words)

-- each flag LOW: its column in the row of its own count, and its rule where there is none
unfoldable pub paf_by_table : ℕ → ℕ → ℕ → ℕ → ℕ → Bool
paf_by_table beyond depth n m words =
    cond (has_row depth n m words) (not (paf_level (row_at beyond depth n m words))) (paf_low depth m words)

unfoldable pub hf_by_table : ℕ → ℕ → ℕ → ℕ → ℕ → Bool
hf_by_table beyond depth n m words =
    cond (has_row depth n m words) (not (hf_level (row_at beyond depth n m words))) (hf_low depth words)

unfoldable pub pae_by_table : ℕ → ℕ → ℕ → ℕ → ℕ → Bool
pae_by_table beyond depth n m words =
    cond (has_row depth n m words) (not (pae_level (row_at beyond depth n m words))) (pae_low n words)
