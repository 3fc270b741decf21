-- Tables 1 and 2: each count has one row, and what a flag's column shows in it is what the flag's rule decides.
use Rattle.std.specs.Prelude.{ℕ, ◌+◌, ◌-◌, ◌/◌, ◌≤◌, ◌<◌, Bool, true, false, not, cond, ◌&&◌, ◌↔◌, ◌≡◌, eqb, leb, ltb}
use Rattle.std.proofs.Math.Bool.{and-eq-true_iff, not-not}
use Rattle.std.proofs.Common.{◌∙◌, ap, sym, arith}
use Rattle.std.proofs.Math.Path.{refl}
use borrow.Author.Tests.{eq-eqb, eqb-false, eqb-true, le-leb, le-ltb, leb-false, leb-true, lt-leb, lt-ltb, ltb-false, ltb-true, ne_eqb}
use Rattle.counts.specs.declared.part.Part.{Part}
use Rattle.counts.specs.Part.{depth_of}
use Rattle.counts.specs.PartLaws.{deepest}
use Rattle.views.specs.Flags.{hf_low, pae_low, paf_low}
use Rattle.views.specs.Tables.{beyond_memory, first_of, has_row, hf_by_table, hf_level, in_order, last_of, limits_of, pae_by_table, pae_level, paf_by_table, paf_level, row_at, row_of, stands_at}
use Rattle.views.specs.declared.tables.Limits.{Limits}
use Rattle.views.specs.declared.tables.Row.{Row}
use Rattle.views.specs.declared.tables.Row.TheVariants.{Empty, AlmostEmpty, ToHalf, AboveHalf, AlmostFull, Full}
use Rattle.views.specs.declared.tables.Table.{Table}
use Rattle.views.specs.declared.tables.Table.TheVariants.{One, Two}

-- both sides of every limit: Table 1 of part 255 with offsets of 127, Table 2 of part 265 with 1,023
pub at_limits_of_one : let row = row_of (limits_of (beyond_memory One) 8192 127 127) in
    (row 0 ≡ Empty) × (row 1 ≡ AlmostEmpty) × (row 127 ≡ AlmostEmpty) × (row 128 ≡ ToHalf) × (row 4096 ≡ ToHalf) × (row 4097 ≡ AboveHalf)
    × (row 8064 ≡ AboveHalf) × (row 8065 ≡ AlmostFull) × (row 8191 ≡ AlmostFull) × (row 8192 ≡ Full)
unfolding row_of
at_limits_of_one = (refl, refl, refl, refl, refl, refl, refl, refl, refl, refl)

pub at_limits_of_two : let row = row_of (limits_of (beyond_memory Two) 16384 1023 1023) in
    (row 0 ≡ Empty) × (row 1 ≡ AlmostEmpty) × (row 1024 ≡ AlmostEmpty) × (row 1025 ≡ ToHalf) × (row 8193 ≡ ToHalf) × (row 8194 ≡ AboveHalf)
    × (row 15361 ≡ AboveHalf) × (row 15362 ≡ AlmostFull) × (row 16384 ≡ AlmostFull) × (row 16385 ≡ Full)
unfolding row_of
at_limits_of_two = (refl, refl, refl, refl, refl, refl, refl, refl, refl, refl)

-- the largest offsets with which the rows are in order, each one more with which they are not; offsets of 0; one word above the depth
pub at_overlaps : (in_order 8192 4096 4095 ≡ true) × (in_order 8192 4097 4095 ≡ false) × (in_order 8192 4096 4096 ≡ false) × (in_order 8192 0 0 ≡ true)
    × (has_row 8192 0 0 8192 ≡ true) × (has_row 8192 0 0 8193 ≡ false)
at_overlaps = (refl, refl, refl, refl, refl, refl)

-- The lemmas that are not `pub` spell out the tests, the way down the rows, the count and the columns, so that each theorem holds or fails alone.
abbrev apart : ℕ → ℕ → ℕ → Bool
apart depth n m = leb n (depth / 2) && ltb (depth / 2) (depth - m)

apart_told : (depth n m : ℕ) → (apart depth n m ≡ true) ↔ ((n ≤ depth / 2) × (depth / 2 < depth - m))
apart_told depth n m =
    let parts = and-eq-true_iff (leb n (depth / 2)) (ltb (depth / 2) (depth - m)) in (
      λ e. (leb-true n (depth / 2) (parts.0 e).0, ltb-true (depth / 2) (depth - m) (parts.0 e).1),
      λ told. parts.1 (le-leb n (depth / 2) told.0, lt-ltb (depth / 2) (depth - m) told.1),
    )

-- where a row decides, for all numbers and both ways
pub order_told : (depth n m : ℕ) → (in_order depth n m ≡ true) ↔ ((n ≤ depth / 2) × (depth / 2 < depth - m))
order_told depth n m = apart_told depth n m

pub row_told : (depth n m words : ℕ) → (has_row depth n m words ≡ true) ↔ ((in_order depth n m ≡ true) × (words ≤ depth))
row_told depth n m words =
    let parts = and-eq-true_iff (in_order depth n m) (leb words depth) in
    (λ e. ((parts.0 e).0, leb-true words depth (parts.0 e).1), λ told. parts.1 (told.0, le-leb words depth told.1))

pub record Ordered (limits : Limits) : Type 0 where
  pub below : limits.few ≤ limits.half
  pub above : limits.half < limits.many
  pub within : limits.many ≤ limits.full

pub record Held (limits : Limits) (row : Row) (count : ℕ) : Type 0 where
  pub first : first_of limits row ≤ count
  pub last : count ≤ last_of limits row

pub record OneRow (limits : Limits) (count : ℕ) : Type 0 where
  pub held : Held limits (row_of limits count) count
  pub only : (row : Row) → Held limits row count → row_of limits count ≡ row

ordered_by : (beyond depth n m : ℕ) → apart depth n m ≡ true → Ordered (limits_of beyond depth n m)
ordered_by beyond depth n m e =
    let told = (apart_told depth n m).0 e in
    record { below = omega arith; above = omega arith; within = omega arith }

pub ordered : (beyond depth n m : ℕ) → in_order depth n m ≡ true → Ordered (limits_of beyond depth n m)
ordered beyond depth n m e = ordered_by beyond depth n m e

-- the limits as the sheet prints them, from the second row to the last; where Table 1 has the depth, Table 2 has one more
pub record Printed (beyond depth n m : ℕ) (limits : Limits) : Type 0 where
  pub second : (first_of limits AlmostEmpty ≡ 1) × (last_of limits AlmostEmpty ≡ n + beyond)
  pub third : (first_of limits ToHalf ≡ n + beyond + 1) × (last_of limits ToHalf ≡ depth / 2 + beyond)
  pub fourth : (first_of limits AboveHalf ≡ depth / 2 + beyond + 1) × (last_of limits AboveHalf ≡ depth + beyond - (m + 1))
  pub fifth : (first_of limits AlmostFull ≡ depth + beyond - m) × (last_of limits AlmostFull ≡ depth + beyond - 1)
  pub sixth : (first_of limits Full ≡ depth + beyond) × (last_of limits Full ≡ depth + beyond)

pub as_printed : (beyond depth n m : ℕ) → in_order depth n m ≡ true → Printed beyond depth n m (limits_of beyond depth n m)
as_printed beyond depth n m e =
    let order = ordered_by beyond depth n m e in
    record {
      second = (refl, refl);
      third = (refl, refl);
      fourth = (refl, omega arith);
      fifth = (omega arith, refl);
      sixth = (refl, refl);
    }

some : (count : ℕ) → eqb count 0 ≡ false → 1 ≤ count
some count e = let h = eqb-false count 0 e in omega arith

abbrev row_by : Limits → ℕ → Row
row_by limits count =
    cond (leb count limits.few) (cond (eqb count 0) Empty AlmostEmpty)
    (cond (leb count limits.half) ToHalf
    (cond (ltb count limits.many) AboveHalf
    (cond (ltb count limits.full) AlmostFull Full)))

module _ (limits : Limits) (count : ℕ) where
  -- by the tests on the way down the rows
  held_by : (toEmptyOffset none toHalf toFullOffset toFull : Bool) → leb count limits.few ≡ toEmptyOffset → eqb count 0 ≡ none
      → leb count limits.half ≡ toHalf → ltb count limits.many ≡ toFullOffset → ltb count limits.full ≡ toFull → count ≤ limits.full
      → Held limits
      (cond toEmptyOffset (cond none Empty AlmostEmpty) (cond toHalf ToHalf (cond toFullOffset AboveHalf (cond toFull AlmostFull Full)))) count
  held_by true true h m f a b c d e t = let u = eqb-true count 0 b in record { first = omega arith; last = omega arith }
  held_by true false h m f a b c d e t =
      let u = leb-true count limits.few a in
      let v = some count b in record { first = omega arith; last = omega arith }
  held_by false z true m f a b c d e t =
      let u = leb-false count limits.few a in
      let v = leb-true count limits.half c in record { first = omega arith; last = omega arith }
  held_by false z false true f a b c d e t =
      let u = leb-false count limits.half c in
      let v = ltb-true count limits.many d in record { first = omega arith; last = omega arith }
  held_by false z false false true a b c d e t =
      let u = ltb-false count limits.many d in
      let v = ltb-true count limits.full e in record { first = omega arith; last = omega arith }
  held_by false z false false false a b c d e t =
      let u = ltb-false count limits.full e in record { first = omega arith; last = omega arith }

  held_in : count ≤ limits.full → Held limits (row_by limits count) count
  held_in t = held_by _ _ _ _ _ refl refl refl refl refl t

  -- a row that holds the count is the one that is found
  only_by : (row : Row) → Ordered limits → Held limits row count → row_by limits count ≡ row
  only_by Empty o h = simp (le-leb count limits.few (omega arith), eq-eqb count 0 (omega arith))
  only_by AlmostEmpty o h = simp (le-leb count limits.few (omega arith), ne_eqb count 0 (λ e. omega arith))
  only_by ToHalf o h = simp (lt-leb count limits.few (omega arith), le-leb count limits.half (omega arith))
  only_by AboveHalf o h =
      simp (lt-leb count limits.few (omega arith), lt-leb count limits.half (omega arith), lt-ltb count limits.many (omega arith))
  only_by AlmostFull o h =
      simp (
        lt-leb count limits.few (omega arith),
        lt-leb count limits.half (omega arith),
        le-ltb count limits.many (omega arith),
        lt-ltb count limits.full (omega arith),
      )
  only_by Full o h =
      simp (
        lt-leb count limits.few (omega arith),
        lt-leb count limits.half (omega arith),
        le-ltb count limits.many (omega arith),
        le-ltb count limits.full (omega arith),
      )

  pub one_row : Ordered limits → count ≤ limits.full → OneRow limits count
  unfolding row_of
  one_row o t = record {
    held = held_in t;
    only = λ row h. only_by row o h;
  }

-- every count of either table, for any depth and offsets that leave the rows in order
pub each_count : (table : Table) (depth n m count : ℕ) → in_order depth n m ≡ true → count ≤ depth + beyond_memory table
    → OneRow (limits_of (beyond_memory table) depth n m) count
unfolding row_of
each_count table depth n m count e t = record {
  held = held_in (limits_of (beyond_memory table) depth n m) count t;
  only = λ row h. only_by (limits_of (beyond_memory table) depth n m) count row (ordered_by (beyond_memory table) depth n m e) h;
}

-- Table 2 with an empty memory: the same levels in the first row, the output register empty too, and in the second, a word in it
pub none_in_memory : (depth n m : ℕ) → let limits = limits_of (beyond_memory Two) depth n m in
    (row_of limits 0 ≡ Empty) × (row_of limits 1 ≡ AlmostEmpty)
    × (paf_level Empty ≡ paf_level AlmostEmpty) × (hf_level Empty ≡ hf_level AlmostEmpty) × (pae_level Empty ≡ pae_level AlmostEmpty)
unfolding row_of
none_in_memory depth n m = (simp (le-leb 0 (n + 1) (omega arith)), simp (le-leb 1 (n + 1) (omega arith)), refl, refl, refl)

-- no limit of a table and no count in it is above the largest number of 16 bits
pub table_fits : (part : Part) (table : Table) → depth_of part + beyond_memory table < 65536
table_fits part One = let d = deepest part in omega arith
table_fits part Two = let d = deepest part in omega arith

pub row_fits : (beyond depth n m words : ℕ) {found : Bool} → found ≡ has_row depth n m words → found ≡ true → depth + beyond < 65536
    → (n ≤ depth) × (stands_at beyond words < 65536)
row_fits beyond depth n m words tested found fits =
    let told = (row_told depth n m words).0 (sym tested ∙ found) in
    let order = ordered_by beyond depth n m told.0 in (omega arith, omega arith)

shown_high : (low : Bool) (P : Type 0) → (low ≡ true) ↔ P → (P → ⊥) → true ≡ not low
shown_high true P rule fails = absurd (fails (rule.0 refl))
shown_high false P rule fails = refl

shown_low : (low : Bool) (P : Type 0) → (low ≡ true) ↔ P → P → false ≡ not low
shown_low low P rule holds = sym (ap not (rule.1 holds))

-- a column read in a row, or a rule with which it agrees
decided_by : (found level low : Bool) → (found ≡ true → level ≡ not low) → cond found (not level) low ≡ low
decided_by true level low agrees = ap not (agrees refl) ∙ not-not low
decided_by false level low agrees = refl

-- a column from the first row to the last
abbrev Column : (Row → Bool) → Bool → Bool → Bool → Bool → Bool → Bool → Type 0
Column level one two three four five six =
    (level Empty ≡ one) × (level AlmostEmpty ≡ two) × (level ToHalf ≡ three) × (level AboveHalf ≡ four) × (level AlmostFull ≡ five) × (level Full ≡ six)

-- what a column shows for the counts from a row's first to its last
module _ (beyond depth n m words : ℕ) where
  abbrev limits : Limits
  limits = limits_of beyond depth n m

  -- where there is a row, its column gives what the rule gives
  in_row : (level : Row → Bool) (low : Bool) → ((row : Row) → Ordered limits → Held limits row (words + beyond) → level row ≡ not low)
      → (apart depth n m ≡ true) × (words ≤ depth) → level (row_by limits (words + beyond)) ≡ not low
  in_row level low agrees told =
      agrees (row_by limits (words + beyond)) (ordered_by beyond depth n m told.0) (held_in limits (words + beyond) (omega arith))

  module _ (level : Row → Bool) (low : Bool) where
    paf_in : (low ≡ true) ↔ (depth - m ≤ words) → Column level true true true true false false
        → (row : Row) → Ordered limits → Held limits row (words + beyond) → level row ≡ not low
    paf_in rule column Empty o h = column.0 ∙ shown_high low _ rule (λ l. omega arith)
    paf_in rule column AlmostEmpty o h = column.1 ∙ shown_high low _ rule (λ l. omega arith)
    paf_in rule column ToHalf o h = column.2 ∙ shown_high low _ rule (λ l. omega arith)
    paf_in rule column AboveHalf o h = column.3 ∙ shown_high low _ rule (λ l. omega arith)
    paf_in rule column AlmostFull o h = column.4 ∙ shown_low low _ rule (omega arith)
    paf_in rule column Full o h = column.5 ∙ shown_low low _ rule (omega arith)

    hf_in : (low ≡ true) ↔ (depth / 2 < words) → Column level true true true false false false
        → (row : Row) → Ordered limits → Held limits row (words + beyond) → level row ≡ not low
    hf_in rule column Empty o h = column.0 ∙ shown_high low _ rule (λ l. omega arith)
    hf_in rule column AlmostEmpty o h = column.1 ∙ shown_high low _ rule (λ l. omega arith)
    hf_in rule column ToHalf o h = column.2 ∙ shown_high low _ rule (λ l. omega arith)
    hf_in rule column AboveHalf o h = column.3 ∙ shown_low low _ rule (omega arith)
    hf_in rule column AlmostFull o h = column.4 ∙ shown_low low _ rule (omega arith)
    hf_in rule column Full o h = column.5 ∙ shown_low low _ rule (omega arith)

    pae_in : (low ≡ true) ↔ (words ≤ n) → Column level false false true true true true
        → (row : Row) → Ordered limits → Held limits row (words + beyond) → level row ≡ not low
    pae_in rule column Empty o h = column.0 ∙ shown_low low _ rule (omega arith)
    pae_in rule column AlmostEmpty o h = column.1 ∙ shown_low low _ rule (omega arith)
    pae_in rule column ToHalf o h = column.2 ∙ shown_high low _ rule (λ l. omega arith)
    pae_in rule column AboveHalf o h = column.3 ∙ shown_high low _ rule (λ l. omega arith)
    pae_in rule column AlmostFull o h = column.4 ∙ shown_high low _ rule (λ l. omega arith)
    pae_in rule column Full o h = column.5 ∙ shown_high low _ rule (λ l. omega arith)

  pub paf_in_row : has_row depth n m words ≡ true → paf_level (row_at beyond depth n m words) ≡ not (paf_low depth m words)
  unfolding row_of
  paf_in_row e =
      in_row paf_level (paf_low depth m words)
      (paf_in _ _ (leb-true (depth - m) words, le-leb (depth - m) words) (refl, refl, refl, refl, refl, refl))
      ((row_told depth n m words).0 e)

  pub hf_in_row : has_row depth n m words ≡ true → hf_level (row_at beyond depth n m words) ≡ not (hf_low depth words)
  unfolding row_of
  hf_in_row e =
      in_row hf_level (hf_low depth words)
      (hf_in _ _ (ltb-true (depth / 2) words, lt-ltb (depth / 2) words) (refl, refl, refl, refl, refl, refl))
      ((row_told depth n m words).0 e)

  pub pae_in_row : has_row depth n m words ≡ true → pae_level (row_at beyond depth n m words) ≡ not (pae_low n words)
  unfolding row_of
  pae_in_row e =
      in_row pae_level (pae_low n words)
      (pae_in _ _ (leb-true words n, le-leb words n) (refl, refl, refl, refl, refl, refl))
      ((row_told depth n m words).0 e)

  -- with a row or without, for any depth, offsets and number of words
  pub paf_by_table_lem : paf_by_table beyond depth n m words ≡ paf_low depth m words
  unfolding paf_by_table row_of
  paf_by_table_lem =
      decided_by (has_row depth n m words) _ (paf_low depth m words)
      (λ e. in_row paf_level (paf_low depth m words)
      (paf_in _ _ (leb-true (depth - m) words, le-leb (depth - m) words) (refl, refl, refl, refl, refl, refl))
      ((row_told depth n m words).0 e))

  pub hf_by_table_lem : hf_by_table beyond depth n m words ≡ hf_low depth words
  unfolding hf_by_table row_of
  hf_by_table_lem =
      decided_by (has_row depth n m words) _ (hf_low depth words)
      (λ e. in_row hf_level (hf_low depth words)
      (hf_in _ _ (ltb-true (depth / 2) words, lt-ltb (depth / 2) words) (refl, refl, refl, refl, refl, refl))
      ((row_told depth n m words).0 e))

  pub pae_by_table_lem : pae_by_table beyond depth n m words ≡ pae_low n words
  unfolding pae_by_table row_of
  pae_by_table_lem =
      decided_by (has_row depth n m words) _ (pae_low n words)
      (λ e. in_row pae_level (pae_low n words)
      (pae_in _ _ (leb-true words n, le-leb words n) (refl, refl, refl, refl, refl, refl))
      ((row_told depth n m words).0 e))
