-- Trace sample, on bytes: which index has an item, and the items one after the other, for any size of an item; and so the records of a trace.
use Rattle.std.specs.Prelude.{ℕ, zero, suc, ◌+◌, ◌*◌, ◌-◌, ◌/◌, ◌%◌, ◌≤◌, ◌<◌, Bool, true, false, cond, ◌||◌, List, ◌∷◌, ◌++◌, ◌≡◌, refl, eqb, ltb}
use Rattle.std.proofs.Common.{sym, ap, ◌∙◌, get_or-append-add, le-ltb, ltb-true, ltb-false, add-zero, suc-add, zero-add}
use Rattle.std.proofs.Math.ListN.{length, get_or-append}
use native.Mathlib.Omega.{arith}
use Rattle.pins.specs.Laws.{AtBit, at_bit}
use Rattle.pins.specs.Record.{unsettled_in}
use Rattle.pins.specs.declared.trace.Record.{Record}
use Rattle.pins.specs.declared.trace.Record.TheVariants.{Whole, Leftover, End}
use Rattle.pins.specs.Trace.{Reads, items_from, marked, number_at, number_of, record_at, record_number, records_from, standing, whole_records, word_at}

-- what is told of each of the three that may stand at an index
told_by : {A : Type 0} (there clean : Bool) (item leftover end : A) (is_whole : A → Bool) → is_whole item ≡ true → is_whole leftover ≡ false → is_whole end ≡ false
    → is_whole (cond there item (cond clean end leftover)) ≡ there
told_by true clean item leftover end is_whole e f h = e
told_by false true item leftover end is_whole e f h = h
told_by false false item leftover end is_whole e f h = f

number_by : {A : Type 0} (there clean : Bool) (item leftover end : A) (number : A → ℕ) → number item ≡ 0 → number leftover ≡ 4 → number end ≡ 0
    → number (cond there item (cond clean end leftover)) ≡ cond (there || clean) 0 4
number_by true clean item leftover end number e f h = e
number_by false true item leftover end number e f h = h
number_by false false item leftover end number e f h = f

module _ {A : Type 0} (size bytes index : ℕ) (item leftover end : A) where
  -- an index has an item exactly where it is below the number of whole ones
  pub standing_whole : (is_whole : A → Bool) → is_whole item ≡ true → is_whole leftover ≡ false → is_whole end ≡ false
      → is_whole (standing size bytes index item leftover end) ≡ ltb index (bytes / size)
  standing_whole = told_by (ltb index (bytes / size)) (eqb (bytes % size) 0) item leftover end

  pub standing_number : (number : A → ℕ) → number item ≡ 0 → number leftover ≡ 4 → number end ≡ 0
      → number (standing size bytes index item leftover end) ≡ number_at size bytes index
  standing_number = number_by (ltb index (bytes / size)) (eqb (bytes % size) 0) item leftover end

-- past the whole items only the bytes left over count
pub past_all : (size bytes : ℕ) → number_at size bytes (bytes / size) ≡ cond (eqb (bytes % size) 0) 0 4
past_all size bytes = rw (le-ltb (bytes / size) (bytes / size) (omega arith)) refl

pub items_length : {A : Type 0} (item : ℕ → A) (index many : ℕ) → length (items_from item index many) ≡ many
unfolding items_from
items_length item index zero = refl
items_length item index (suc many) = ap suc (items_length item (index + 1) many)

pub items_next : {A : Type 0} (item : ℕ → A) (index whole : ℕ) → index < whole
    → items_from item index (whole - index) ≡ item index ∷ items_from item (index + 1) (whole - (index + 1))
unfolding items_from
items_next item index whole below =
    let more : whole - index ≡ suc (whole - (index + 1)) = omega arith in
    rw more

items_join : {A : Type 0} (item : ℕ → A) (index many more : ℕ)
    → items_from item index (many + more) ≡ items_from item index many ++ items_from item (index + many) more
unfolding items_from
items_join item index zero more = rw (zero-add, add-zero) refl
items_join {A} item index (suc many) more =
    let on : index + suc many ≡ index + 1 + many = omega arith in
    rw (suc-add, on) (ap (λ (l : List A). item index ∷ l) (items_join item (index + 1) many more))

items_same : {A : Type 0} (item other : ℕ → A) (from many index : ℕ) → ((i : ℕ) → i < many → item (from + (index + i)) ≡ other (index + i))
    → items_from item (from + index) many ≡ items_from other index many
unfolding items_from
items_same item other from zero index same = refl
items_same {A} item other from (suc many) index same =
    let on : from + index + 1 ≡ from + (index + 1) = omega arith in
    let here : item (from + index) ≡ other index = rw add-zero at (same 0 (omega arith)) in
    let next : (i : ℕ) → i < many → item (from + (index + 1 + i)) ≡ other (index + 1 + i) =
    λ i h. (let over : index + suc i ≡ index + 1 + i = omega arith in rw over at (same (suc i) (omega arith))) in
    rw (on, here) (ap (λ (l : List A). other index ∷ l) (items_same item other from many (index + 1) next))

-- items of two parts, the first of so many
pub items_split : {A : Type 0} (item first second : ℕ → A) (whole many : ℕ) → ((i : ℕ) → i < whole → item i ≡ first i)
    → ((i : ℕ) → item (whole + i) ≡ second i) → items_from item 0 (whole + many) ≡ items_from first 0 whole ++ items_from second 0 many
items_split {A} item first second whole many one two =
    let begin : items_from item 0 whole ≡ items_from first 0 whole =
    rw zero-add at (items_same item first 0 whole 0 (λ i h. rw (zero-add, zero-add) (one i h))) in
    let rest : items_from item whole many ≡ items_from second 0 many =
    rw add-zero at (items_same item second whole many 0 (λ i h. rw zero-add (two i))) in
    items_join item 0 whole many ∙ rw (zero-add, begin, rest) refl

-- four bytes in the first or the second of two parts
module _ (u v : List ℕ) where
  pub word_first : (at : ℕ) → at + 3 < length u → word_at (u ++ v) at ≡ word_at u at
  unfolding word_at
  word_first at h =
      rw (
        get_or-append u v 0 at (omega arith),
        get_or-append u v 0 (at + 1) (omega arith),
        get_or-append u v 0 (at + 2) (omega arith),
        get_or-append u v 0 (at + 3) (omega arith),
      )

  pub word_second : (at : ℕ) → word_at (u ++ v) (length u + at) ≡ word_at v at
  unfolding word_at
  word_second at =
      let first : length u + at + 1 ≡ length u + (at + 1) = omega arith in
      let second : length u + at + 2 ≡ length u + (at + 2) = omega arith in
      let third : length u + at + 3 ≡ length u + (at + 3) = omega arith in
      rw (third, second, first) (simp get_or-append-add)

abbrev pub is_whole : Record → Bool
is_whole (Whole word unsettled) = true
is_whole Leftover = false
is_whole End = false

pub whole_told : (trace : List ℕ) (index : ℕ) → is_whole (record_at trace index) ≡ ltb index (whole_records trace)
unfolding record_at
whole_told trace index = standing_whole 4 (length trace) index (marked (word_at trace (index * 4))) Leftover End is_whole refl refl refl

marked_by : (there clean : Bool) (word found : ℕ) (unsettled : Bool) → cond there (marked word) (cond clean End Leftover) ≡ Whole found unsettled
    → (word ≡ found) × (unsettled_in word ≡ unsettled)
marked_by true clean word found unsettled e = (cc, cc)
marked_by false true word found unsettled e = let z : ◌≡◌ {A = ℕ} 0 1 = cc in absurd (omega arith)
marked_by false false word found unsettled e = let z : ◌≡◌ {A = ℕ} 0 1 = cc in absurd (omega arith)

module _ (trace : List ℕ) (index : ℕ) {word : ℕ} {unsettled : Bool} (e : record_at trace index ≡ Whole word unsettled) where
  pub whole_below : index < whole_records trace
  whole_below = ltb-true index (whole_records trace) (sym (whole_told trace index) ∙ ap is_whole e)

  as_read : (word_at trace (index * 4) ≡ word) × (unsettled_in (word_at trace (index * 4)) ≡ unsettled)
  unfolding record_at
  as_read = marked_by (ltb index (whole_records trace)) (eqb (length trace % 4) 0) (word_at trace (index * 4)) word unsettled e

  pub whole_word : word_at trace (index * 4) ≡ word
  whole_word = as_read.0

  -- the mark handed back is bit 18 of the record handed back
  pub whole_mark : AtBit word 18 unsettled
  whole_mark = rw (← as_read.1, as_read.0) (at_bit word 18)

pub none_whole : (trace : List ℕ) (index : ℕ) → is_whole (record_at trace index) ≡ false → whole_records trace ≤ index
none_whole trace index e = ltb-false index (whole_records trace) (sym (whole_told trace index) ∙ e)

pub number_told : (trace : List ℕ) (index : ℕ) → number_of (record_at trace index) ≡ record_number trace index
unfolding record_at
number_told trace index = standing_number 4 (length trace) index (marked (word_at trace (index * 4))) Leftover End number_of refl refl refl

pub end_told : (trace : List ℕ) → number_of (record_at trace (whole_records trace)) ≡ cond (eqb (length trace % 4) 0) 0 4
end_told trace = number_told trace (whole_records trace) ∙ past_all 4 (length trace)

pub records_length : (trace : List ℕ) (index many : ℕ) → length (records_from trace index many) ≡ many
records_length trace = items_length (λ at. word_at trace (at * 4))

-- a trace in two parts, the first of whole records
pub records_split : (u v : List ℕ) (whole : ℕ) → length u ≡ whole * 4 → (many : ℕ)
    → records_from (u ++ v) 0 (whole + many) ≡ records_from u 0 whole ++ records_from v 0 many
records_split u v whole e many =
    items_split (λ at. word_at (u ++ v) (at * 4)) (λ at. word_at u (at * 4)) (λ at. word_at v (at * 4)) whole many
    (λ i h. word_first u v (i * 4) (omega arith))
    (λ i. (let place : (whole + i) * 4 ≡ length u + i * 4 = omega arith in rw place (word_second u v (i * 4))))

-- What counts as an answer proved
pub record_unique : (trace : List ℕ) (index : ℕ) (a b : Record) → Reads trace index a → Reads trace index b → a ≡ b
record_unique trace index a b f g = f.result ∙ sym g.result
