-- Order 4: what is turned away before any record is looked at, 1, 13, 2 and 3.
use Rattle.std.specs.Prelude.{ℕ, ◌*◌, Bool, cond, ◌&&◌, eqb, leb, Result, Ok, Err}
use Rattle.rows.specs.declared.row.Row.{Row}
use Rattle.rows.specs.Step.{passes_to}
use Rattle.counts.specs.declared.part.Part.{Part}
use Rattle.counts.specs.Part.{by_part, depth_of, part_of}
use Rattle.refusal_kinds.specs.declared.Refusal.{Refusal}
use Rattle.refusal_kinds.specs.Numbers.{number}

-- the part that is asked for, or a refusal's number
pub data Verdict : Type 0 where
  Passed : Part → Verdict
  Refused : ℕ → Verdict

abbrev pub in_numbers : Result Part Refusal → Verdict
in_numbers (Ok part) = Passed part
in_numbers (Err refusal) = Refused (number refusal)

-- two to eight parts
abbrev pub several : ℕ → Bool
several count = leb 2 count && leb count 8

-- 2 where the memories together are not as long as the parts are deep or a run has no room for its answers, and 3
unfoldable pub known_test : Part → Row → ℕ → Bool → Verdict
known_test part row words roomy =
    cond (roomy && eqb words (row.count * depth_of part))
    (cond (passes_to part row row.count) (Passed part) (Refused 3))
    (Refused 2)

unfoldable pub test_of : ℕ → Row → ℕ → Bool → Verdict
test_of number row words roomy = by_part (part_of number) (λ part. cond (several row.count) (known_test part row words roomy) (Refused 13)) (Refused 1)

-- what follows from a test
abbrev pub by_test : {A : Type 0} → Verdict → (Part → A) → (ℕ → A) → A
by_test (Passed part) passed refused = passed part
by_test (Refused number) passed refused = refused number
