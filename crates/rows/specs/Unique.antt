-- What counts as an answer proved, of a row of parts: two rows at power-up that meet the promise are the same.
use Rattle.std.specs.Prelude.{ℕ, ◌≡◌}
use Rattle.std.proofs.Common.{sym, ◌∙◌}
use Rattle.rows.specs.declared.row.Row.{Row}
use Rattle.rows.specs.Row.{PoweredUp}

pub power_up_unique : (count : ℕ) (a b : Row) → PoweredUp count a → PoweredUp count b → a ≡ b
power_up_unique count a b e f = e ∙ sym f
