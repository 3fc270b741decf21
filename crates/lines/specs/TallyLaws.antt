-- Bench figures, the trace programs: where the chunks of a trace end.
use Rattle.std.specs.Prelude.{◌≡◌, ℕ, Bool, true, false, ◌≢◌}
use Rattle.std.proofs.Math.Bool.{or-true}
use Rattle.std.proofs.Math.Path.{refl}
use Rattle.std.proofs.Common.{ne_eqb}
use Rattle.lines.specs.declared.tally.Tally.{Tally}
use Rattle.lines.specs.Tally.{counted}

module _ (before : Tally) (index accepted : ℕ) where
  pub refusal_ends : (refusal : ℕ) (last : Bool) → refusal ≢ 0 → (counted before index accepted refusal last).over ≡ true
  unfolding counted
  refusal_ends refusal last some = simp (ne_eqb refusal 0 some, or-true)

  pub last_ends : (refusal : ℕ) → (counted before index accepted refusal true).over ≡ true
  unfolding counted
  last_ends refusal = refl

  pub goes_on : (counted before index accepted 0 false).over ≡ false
  unfolding counted
  goes_on = refl
