-- What holds of both holds of whichever a test picks.
use Rattle.std.specs.Prelude.{Bool, true, false, cond}

pub either : {A : Type 0} (P : A → Type 0) (first : Bool) (a b : A) → P a → P b → P (cond first a b)
either P true a b p q = p
either P false a b p q = q
