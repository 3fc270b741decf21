-- Order 4, on bytes: which index has a record, and its seven bytes in figures.
use Rattle.std.specs.Prelude.{ℕ, ◌*◌, ◌≤◌, ◌<◌, ◌%◌, ◌+◌, Bool, true, false, cond, List, [], ◌∷◌, ◌≡◌, refl, eqb, ltb, length}
use Rattle.std.proofs.Common.{sym, ap, ◌∙◌, ltb-false, ltb-true, arith}
use Rattle.links.specs.Record.{links_of}
use Rattle.pins.specs.Trace.{number_at, word_at}
use Rattle.pins.specs.TraceLaws.{past_all, standing_number, standing_whole}
use Rattle.chain_work.specs.declared.records.Record.{Record}
use Rattle.chain_work.specs.declared.records.Record.TheVariants.{Whole, Leftover, End}
use Rattle.chain_work.specs.Records.{Reads, links_at, more_at, number_of, record_at, whole_records}

abbrev pub is_whole : Record → Bool
is_whole (Whole head more) = true
is_whole Leftover = false
is_whole End = false

pub whole_told : (trace : List ℕ) (index : ℕ) → is_whole (record_at trace index) ≡ ltb index (whole_records trace)
unfolding record_at
whole_told trace index =
    standing_whole 7 (length trace) index (Whole (word_at trace (index * 7)) (more_at trace (index * 7))) Leftover End is_whole refl refl refl

links_by : (there clean : Bool) (x y head more : ℕ) → cond there (Whole x y) (cond clean End Leftover) ≡ Whole head more → links_of x y ≡ links_of head more
links_by true clean x y head more e =
    let one : x ≡ head = cc in
    let other : y ≡ more = cc in
    λ i. links_of (one i) (other i)
links_by false true x y head more e = let z : ◌≡◌ {A = ℕ} 0 1 = cc in absurd (omega arith)
links_by false false x y head more e = let z : ◌≡◌ {A = ℕ} 0 1 = cc in absurd (omega arith)

module _ (trace : List ℕ) (index : ℕ) {head more : ℕ} (e : record_at trace index ≡ Whole head more) where
  pub whole_below : index < whole_records trace
  whole_below = ltb-true index (whole_records trace) (sym (whole_told trace index) ∙ ap is_whole e)

  pub whole_links : links_at trace index ≡ links_of head more
  unfolding record_at
  whole_links =
      links_by (ltb index (whole_records trace)) (eqb (length trace % 7) 0) (word_at trace (index * 7)) (more_at trace (index * 7)) head more e

pub none_whole : (trace : List ℕ) (index : ℕ) → is_whole (record_at trace index) ≡ false → whole_records trace ≤ index
none_whole trace index e = ltb-false index (whole_records trace) (sym (whole_told trace index) ∙ e)

pub number_told : (trace : List ℕ) (index : ℕ) → number_of (record_at trace index) ≡ number_at 7 (length trace) index
unfolding record_at
number_told trace index =
    standing_number 7 (length trace) index (Whole (word_at trace (index * 7)) (more_at trace (index * 7))) Leftover End number_of refl refl refl

pub end_told : (trace : List ℕ) → number_of (record_at trace (whole_records trace)) ≡ cond (eqb (length trace % 7) 0) 0 4
end_told trace = number_told trace (whole_records trace) ∙ past_all 7 (length trace)

-- What counts as an answer proved: two records that meet the promise are the same.
pub record_unique : (trace : List ℕ) (index : ℕ) (a b : Record) → Reads trace index a → Reads trace index b → a ≡ b
record_unique trace index a b f g = f.result ∙ sym g.result

-- a part's record, the byte of most weight first, and then the three bytes, likewise
pub seven_bytes : (a b c d e f g : ℕ)
    → links_at (a ∷ b ∷ c ∷ d ∷ e ∷ f ∷ g ∷ []) 0 ≡ links_of (a * 16777216 + b * 65536 + c * 256 + d) (e * 65536 + f * 256 + g)
unfolding word_at
seven_bytes a b c d e f g = let more : 0 * 16777216 + e * 65536 + f * 256 + g ≡ e * 65536 + f * 256 + g = omega arith in ap (links_of (a * 16777216 + b * 65536 + c * 256 + d)) more
