-- Nothing is lost in numbers: of two tests, and of two samples of a row, that are the same there each part is the same.
use Rattle.std.specs.Prelude.{ℕ, ◌≡◌, Result, Ok, Err}
use Rattle.std.proofs.Common.{sym, ap, arith}
use Rattle.counts.specs.declared.part.Part.{Part}
use Rattle.fifo.specs.OutcomeLaws as outcome
use Rattle.refusal_kinds.specs.declared.Refusal.{Refusal}
use Rattle.refusal_kinds.specs.NumberLaws.{number_injective}
use Rattle.chain_runs.specs.declared.sample.Worked as code
use Rattle.chain_runs.specs.Outcome.{Worked, worked_in_numbers}
use Rattle.chain_runs.specs.Test.{Passed, Refused, in_numbers}

same_part : {a b : Part} → Passed a ≡ Passed b → a ≡ b
same_part e = cc

same_number : {a b : ℕ} → Refused a ≡ Refused b → a ≡ b
same_number e = cc

not_both : {part : Part} {number : ℕ} → Passed part ≡ Refused number → ⊥
not_both e = let z : ◌≡◌ {A = ℕ} 0 1 = cc in absurd (omega arith)

pub in_numbers_injective : (a b : Result Part Refusal) → in_numbers a ≡ in_numbers b → a ≡ b
in_numbers_injective (Ok a) (Ok b) e = ap Ok (same_part e)
in_numbers_injective (Ok a) (Err b) e = absurd (not_both e)
in_numbers_injective (Err a) (Ok b) e = absurd (not_both (sym e))
in_numbers_injective (Err a) (Err b) e = ap Err (number_injective a b (same_number e))

pub worked_injective : (a b : code.Worked) → worked_in_numbers a ≡ worked_in_numbers b → a ≡ b
worked_injective a b e =
    let given = outcome.in_numbers_injective a.outcome b.outcome (ap (λ (r : Worked). r.outcome) e) in
    let after = ap (λ (r : Worked). r.row) e in
    λ i. record { outcome = given i; row = after i }
