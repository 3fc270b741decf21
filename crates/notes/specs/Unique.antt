-- What counts as an answer proved: two outcomes that meet a run's promise are the same in result and in every room lent.
use Rattle.std.specs.Prelude.{ℕ, List, ◌≡◌}
use Rattle.std.proofs.Common.{sym, ◌∙◌}
use Rattle.notes.specs.Fold.{Ended, Ends, EndsStrict}

module _ {S M R : Type 0} {ran : Ended S M → R} {expected : Ended S M} {a b : R} {m n : M} {k l : List ℕ} where
  pub strict_unique : EndsStrict ran expected a m k → EndsStrict ran expected b n l → (a ≡ b) × (m ≡ n) × (k ≡ l)
  strict_unique f g = (f.result ∙ sym g.result, f.words ∙ sym g.words, f.room ∙ sym g.room)

  pub ends_unique : {i j : List ℕ} → Ends ran expected a m k i → Ends ran expected b n l j → (a ≡ b) × (m ≡ n) × (k ≡ l) × (i ≡ j)
  ends_unique f g =
      (f.strict.result ∙ sym g.strict.result, f.strict.words ∙ sym g.strict.words, f.strict.room ∙ sym g.strict.room, f.marked ∙ sym g.marked)
