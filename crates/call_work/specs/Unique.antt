-- What counts as an answer proved: two results that are those of one definition are the same, and so is every buffer.
use Rattle.std.specs.Prelude.{ℕ, List, ◌≡◌, Result}
use Rattle.std.proofs.Common.{sym, ◌∙◌}
use Rattle.refusal_kinds.specs.declared.Refusal.{Refusal}
use Rattle.refusal_kinds.specs.NumberLaws.{code_of_injective}
use Rattle.refusal_kinds.specs.Numbers.{code_of}
use Rattle.call_work.specs.Work.{Called, Gives}

pub gives_unique : (c : Called) (a b : Result (Unit {0}) Refusal) (s t m n k l : List ℕ) → Gives c (code_of a) s m k → Gives c (code_of b) t n l
    → (a ≡ b) × (s ≡ t) × (m ≡ n) × (k ≡ l)
gives_unique c a b s t m n k l f g =
    (code_of_injective a b (f.result ∙ sym g.result), f.spelled ∙ sym g.spelled, f.words ∙ sym g.words, f.room ∙ sym g.room)

-- and so are the codes that C gets
pub gives_codes_unique : (c : Called) (a b : ℕ) (s t m n k l : List ℕ) → Gives c a s m k → Gives c b t n l → (a ≡ b) × (s ≡ t) × (m ≡ n) × (k ≡ l)
gives_codes_unique c a b s t m n k l f g =
    (f.result ∙ sym g.result, f.spelled ∙ sym g.spelled, f.words ∙ sym g.words, f.room ∙ sym g.room)
