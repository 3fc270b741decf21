-- Nothing is lost in numbers: of two samples that are the same there each part is the same.
use Rattle.std.specs.Prelude.{ℕ, ◌≡◌, Result, Ok, Err}
use Rattle.std.proofs.Common.{sym, ap, arith}
use Rattle.refusal_kinds.specs.declared.Refusal.{Refusal}
use Rattle.refusal_kinds.specs.NumberLaws.{number_injective}
use Rattle.fifo.specs.declared.sample.Sampled as code
use Rattle.fifo.specs.Outcome.{Refused, Sampled, Taken, in_numbers, sampled_in_numbers}

same_number : {a b : ℕ} → Refused a ≡ Refused b → a ≡ b
same_number e = cc

not_both : {answer number : ℕ} → Taken answer ≡ Refused number → ⊥
not_both e = let z : ◌≡◌ {A = ℕ} 0 1 = cc in absurd (omega arith)

pub in_numbers_injective : (a b : Result ℕ Refusal) → in_numbers a ≡ in_numbers b → a ≡ b
in_numbers_injective (Ok a) (Ok b) e = cc
in_numbers_injective (Ok a) (Err b) e = absurd (not_both e)
in_numbers_injective (Err a) (Ok b) e = absurd (not_both (sym e))
in_numbers_injective (Err a) (Err b) e = ap Err (number_injective a b (same_number e))

pub sampled_injective : (a b : code.Sampled) → sampled_in_numbers a ≡ sampled_in_numbers b → a ≡ b
sampled_injective a b e =
    let outcome = in_numbers_injective a.outcome b.outcome (ap (λ (r : Sampled). r.outcome) e) in
    let state = ap (λ (r : Sampled). r.state) e in
    λ i. record { outcome = outcome i; state = state i }
