-- Two parts side by side, on bytes: which index has a sample, and the samples of a trace in two parts.
use Rattle.std.specs.Prelude.{ℕ, ◌+◌, ◌*◌, ◌≤◌, ◌<◌, ◌%◌, Bool, true, false, cond, List, ◌++◌, ◌≡◌, refl, eqb, ltb, length}
use Rattle.std.proofs.Common.{sym, ap, ◌∙◌, ltb-false, ltb-true, arith}
use Rattle.halves.specs.Two.{Two, two}
use Rattle.pins.specs.Trace.{number_at}
use Rattle.pins.specs.TraceLaws.{items_split, past_all, standing_number, standing_whole, word_first, word_second}
use Rattle.pair_work.specs.declared.samples.Sample.{Sample}
use Rattle.pair_work.specs.declared.samples.Sample.TheVariants.{Whole, Leftover, End}
use Rattle.pair_work.specs.Samples.{Reads, number_of, records_at, sample_at, samples_from, whole_samples}

abbrev pub is_whole : Sample → Bool
is_whole (Whole left right) = true
is_whole Leftover = false
is_whole End = false

pub whole_told : (trace : List ℕ) (index : ℕ) → is_whole (sample_at trace index) ≡ ltb index (whole_samples trace)
unfolding sample_at
whole_told trace index =
    standing_whole 8 (length trace) index (Whole (records_at trace index).left (records_at trace index).right) Leftover End is_whole refl refl refl

records_by : (there clean : Bool) (x : Two ℕ) (left right : ℕ) → cond there (Whole x.left x.right) (cond clean End Leftover) ≡ Whole left right
    → x ≡ two left right
records_by true clean x left right e =
    let one : x.left ≡ left = cc in
    let other : x.right ≡ right = cc in
    λ i. two (one i) (other i)
records_by false true x left right e = let z : ◌≡◌ {A = ℕ} 0 1 = cc in absurd (omega arith)
records_by false false x left right e = let z : ◌≡◌ {A = ℕ} 0 1 = cc in absurd (omega arith)

module _ (trace : List ℕ) (index : ℕ) {left right : ℕ} (e : sample_at trace index ≡ Whole left right) where
  pub whole_below : index < whole_samples trace
  whole_below = ltb-true index (whole_samples trace) (sym (whole_told trace index) ∙ ap is_whole e)

  pub whole_records_lem : records_at trace index ≡ two left right
  unfolding sample_at
  whole_records_lem = records_by (ltb index (whole_samples trace)) (eqb (length trace % 8) 0) (records_at trace index) left right e

pub none_whole : (trace : List ℕ) (index : ℕ) → is_whole (sample_at trace index) ≡ false → whole_samples trace ≤ index
none_whole trace index e = ltb-false index (whole_samples trace) (sym (whole_told trace index) ∙ e)

pub number_told : (trace : List ℕ) (index : ℕ) → number_of (sample_at trace index) ≡ number_at 8 (length trace) index
unfolding sample_at
number_told trace index =
    standing_number 8 (length trace) index (Whole (records_at trace index).left (records_at trace index).right) Leftover End number_of refl refl refl

pub end_told : (trace : List ℕ) → number_of (sample_at trace (whole_samples trace)) ≡ cond (eqb (length trace % 8) 0) 0 4
end_told trace = number_told trace (whole_samples trace) ∙ past_all 8 (length trace)

-- a trace in two parts, the first of whole samples
pub samples_split : (u v : List ℕ) (whole : ℕ) → length u ≡ whole * 8 → (many : ℕ)
    → samples_from (u ++ v) 0 (whole + many) ≡ samples_from u 0 whole ++ samples_from v 0 many
samples_split u v whole e many =
    items_split (records_at (u ++ v)) (records_at u) (records_at v) whole many
    (λ i h. λ j. two (word_first u v (i * 8) (omega arith) j) (word_first u v (i * 8 + 4) (omega arith) j))
    (λ i. (let left : (whole + i) * 8 ≡ length u + i * 8 = omega arith in
    let right : (whole + i) * 8 + 4 ≡ length u + (i * 8 + 4) = omega arith in
    rw (right, left) (λ j. two (word_second u v (i * 8) j) (word_second u v (i * 8 + 4) j))))

-- What counts as an answer proved: two samples that meet the promise are the same.
pub sample_unique : (trace : List ℕ) (index : ℕ) (a b : Sample) → Reads trace index a → Reads trace index b → a ≡ b
sample_unique trace index a b f g = f.result ∙ sym g.result
