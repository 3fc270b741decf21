-- What is turned away before any record is looked at, in the table's order. Part numbers and depths stand in plain figures, so that a definition
-- that says another is refused here.
use Rattle.std.specs.Prelude.{ℕ, ◌*◌, ◌≤◌, ◌<◌, Bool, true, false, cond, ◌&&◌, ◌≢◌, ◌≡◌, refl, eqb, leb, length, Option, Some, None}
use Rattle.std.proofs.Math.Bool.{and-false}
use Rattle.std.proofs.Common.{sym, ◌∙◌, arith}
use Rattle.std.proofs.Math.Path.{ap}
use borrow.Author.Tests.{eq-eqb, eqb-true, le-leb, leb-true, lt-leb, ne_eqb}
use Rattle.rows.specs.declared.row.Row.{Row}
use Rattle.rows.specs.Relied.{fits, widths_to}
use Rattle.rows.specs.Step.{passes_part, passes_to, state_of}
use Rattle.rows.specs.StepLaws.{all_at, all_by, told_fits}
use Rattle.chip.specs.State.{passes, widths}
use Rattle.chip.specs.Widths.{tested_widths}
use Rattle.counts.specs.Both.{both}
use Rattle.counts.specs.declared.part.Part.{Part}
use Rattle.counts.specs.Part.{by_part, depth_of, part_of}
use Rattle.fifo.specs.NumberLaws.{asked_by, known, same_depth, words_in}
use Rattle.chain_runs.specs.Test.{Passed, Refused}
use Rattle.chain_runs.specs.Test.{known_test, several, test_of}

module _ (number : ℕ) (row : Row) (words : ℕ) (roomy : Bool) {looked : Option Part} (l : looked ≡ part_of number) where
  pub by_unknown : looked ≡ None → test_of number row words roomy ≡ Refused 1
  unfolding test_of
  by_unknown u = simp (sym l ∙ u)

  pub by_known : {part : Part} → looked ≡ Some part → several row.count ≡ true → test_of number row words roomy ≡ known_test part row words roomy
  unfolding test_of
  by_known k s = simp (sym l ∙ k, s)

  pub by_few : {part : Part} → looked ≡ Some part → several row.count ≡ false → test_of number row words roomy ≡ Refused 13
  unfolding test_of
  by_few k s = simp (sym l ∙ k, s)

pub several_most : (count : ℕ) → several count ≡ true → count ≤ 8
several_most count e = leb-true count 8 (both (leb 2 count) (leb count 8) e).1

-- a test that is passed, taken apart
pub record Passing (part : Part) (row : Row) (words : ℕ) (roomy : Bool) : Type 0 where
  pub room : roomy ≡ true
  pub most : row.count ≤ 8
  pub sized : words ≡ row.count * depth_of part
  pub tested : passes_to part row row.count ≡ true

known_by : (sized passes : Bool) (mine part : Part) → cond sized (cond passes (Passed mine) (Refused 3)) (Refused 2) ≡ Passed part
    → (sized ≡ true) × (passes ≡ true) × (mine ≡ part)
known_by true true mine part e = let same : mine ≡ part = cc in (refl, refl, same)
known_by true false mine part e = let z : ◌≡◌ {A = ℕ} 0 1 = cc in absurd (omega arith)
known_by false passes mine part e = let z : ◌≡◌ {A = ℕ} 0 1 = cc in absurd (omega arith)

test_by : (looked : Option Part) (row : Row) (words : ℕ) (roomy enough : Bool) (part : Part) → (enough ≡ true → row.count ≤ 8)
    → by_part looked (λ known. cond enough (known_test known row words roomy) (Refused 13)) (Refused 1) ≡ Passed part
    → Passing part row words roomy
unfolding known_test
test_by (Some mine) row words roomy true part most e =
    let all = known_by _ _ mine part e in
    let lent = both roomy _ all.0 in
    record {
      room = lent.0;
      most = most refl;
      sized = eqb-true _ _ lent.1 ∙ ap (λ (p : Part). row.count * depth_of p) all.2;
      tested = ap (λ (p : Part). passes_to p row row.count) (sym all.2) ∙ all.1;
    }
test_by (Some mine) row words roomy false part most e = let z : ◌≡◌ {A = ℕ} 0 1 = cc in absurd (omega arith)
test_by None row words roomy enough part most e = let z : ◌≡◌ {A = ℕ} 0 1 = cc in absurd (omega arith)

pub passing : (number : ℕ) (row : Row) (words : ℕ) (roomy : Bool) (part : Part) → test_of number row words roomy ≡ Passed part → Passing part row words roomy
unfolding test_of
passing number row words roomy part e =
    let few = leb row.count 8 in
    test_by (part_of number) row words roomy (several row.count) part (λ s. leb-true row.count 8 (both (leb 2 row.count) few s).1) e

-- a part that passes 3 has the widths
passes_widths : (part : Part) (row : Row) (n : ℕ) → passes_to part row n ≡ true → widths_to part row n ≡ true
unfolding passes_part
passes_widths part row n e =
    all_by (widths part) row n (λ i l. tested_widths part (state_of row i) (both (passes part (state_of row i)) _ (all_at (passes_part part) row n i e l)).0)

pub passing_fits : {part : Part} {row : Row} {words : ℕ} {roomy : Bool} → length row.states ≡ 8 → Passing part row words roomy → fits part words row ≡ true
passing_fits {part} {row} {words} eight p =
    told_fits part words row (record {
      most = p.most;
      eight = eight;
      enough = rw p.sized (omega arith);
      wide = passes_widths part row row.count p.tested;
    })

each_true : {a b : Bool} → a ≡ true → b ≡ true → a && b ≡ true
each_true e f = rw (e, f) refl

-- the rows of the table
module _ (row : Row) (words : ℕ) (roomy : Bool) where
  pub one_comes : (number : ℕ) → number ≢ 255 → number ≢ 265 → test_of number row words roomy ≡ Refused 1
  unfolding test_of
  one_comes number n m = simp (ne_eqb number 255 n, ne_eqb number 265 m)

  module _ (part : Part) where
    pub thirteen_by_few : row.count < 2 → test_of (asked_by part) row words roomy ≡ Refused 13
    unfolding test_of
    thirteen_by_few l = simp (known part, lt-leb 2 row.count l)

    pub thirteen_by_many : 8 < row.count → test_of (asked_by part) row words roomy ≡ Refused 13
    unfolding test_of
    thirteen_by_many l = simp (known part, le-leb 2 row.count (omega (arith, l)), lt-leb row.count 8 l)

    module _ (few : 2 ≤ row.count) (many : row.count ≤ 8) where
      enough : several row.count ≡ true
      enough = each_true (le-leb 2 row.count few) (le-leb row.count _ (omega (arith, many)))

      pub two_by_memory_lem : words ≢ row.count * words_in part → test_of (asked_by part) row words roomy ≡ Refused 2
      unfolding test_of known_test
      two_by_memory_lem n = simp (known part, enough, ne_eqb words (row.count * depth_of part) (λ e. n (e ∙ ap (λ (d : ℕ). row.count * d) (sym (same_depth part)))), and-false)

      pub two_by_room : roomy ≡ false → test_of (asked_by part) row words roomy ≡ Refused 2
      unfolding test_of known_test
      two_by_room r = simp (known part, enough, r)

      module _ (sized : words ≡ row.count * words_in part) (room : roomy ≡ true) where
        whole : eqb words (row.count * depth_of part) ≡ true
        whole = eq-eqb words (row.count * depth_of part) (sized ∙ ap (λ (d : ℕ). row.count * d) (same_depth part))

        pub three_comes : passes_to part row row.count ≡ false → test_of (asked_by part) row words roomy ≡ Refused 3
        unfolding test_of known_test
        three_comes f = simp (known part, enough, room, whole, f)

        pub then_passed : passes_to part row row.count ≡ true → test_of (asked_by part) row words roomy ≡ Passed part
        unfolding test_of known_test
        then_passed f = simp (known part, enough, room, whole, f)
