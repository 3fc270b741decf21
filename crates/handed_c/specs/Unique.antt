-- What counts as an answer proved: two outcomes that meet a promise are the same in number, and in every room lent.
use Rattle.std.specs.Prelude.{ℕ, List, ◌≡◌}
use Rattle.std.proofs.Common.{sym, ◌∙◌}
use Rattle.handed_c.specs.Handed.{Handed, Hands, RunsLenient, RunsStrict}

hands_unique : (expected : Handed) (a b : ℕ) (s t m n k l i j : List ℕ) → Hands expected a s m k i → Hands expected b t n l j
    → (a ≡ b) × (s ≡ t) × (m ≡ n) × (k ≡ l) × (i ≡ j)
hands_unique expected a b s t m n k l i j f g =
    (f.result ∙ sym g.result, f.spelled ∙ sym g.spelled, f.words ∙ sym g.words, f.room ∙ sym g.room, f.told ∙ sym g.told)

pub strict_unique : (number : ℕ) (bytes state memory answers ended : List ℕ) (a b : ℕ) (s t m n k l i j : List ℕ)
    → RunsStrict number bytes state memory answers ended a s m k i → RunsStrict number bytes state memory answers ended b t n l j
    → (a ≡ b) × (s ≡ t) × (m ≡ n) × (k ≡ l) × (i ≡ j)
strict_unique number bytes state memory answers ended = hands_unique _

pub lenient_unique : (number : ℕ) (bytes state memory answers marks ended : List ℕ) (a b : ℕ) (s t m n k l x y i j : List ℕ)
    → RunsLenient number bytes state memory answers marks ended a s m k x i → RunsLenient number bytes state memory answers marks ended b t n l y j
    → (a ≡ b) × (s ≡ t) × (m ≡ n) × (k ≡ l) × (i ≡ j) × (x ≡ y)
lenient_unique number bytes state memory answers marks ended a b s t m n k l x y i j f g =
    let same = hands_unique _ a b s t m n k l i j f.hands g.hands in
    (same.0, same.1, same.2, same.3, same.4, f.marked ∙ sym g.marked)
