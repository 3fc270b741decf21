-- What counts as an answer proved, of the composite flags: two outcomes that meet an operation's promise are the same.
use Rattle.std.specs.Prelude.{ℕ, ◌≡◌}
use Rattle.std.proofs.Common.{sym, ◌∙◌}
use Rattle.sides.specs.declared.read.Mode.{Mode}
use Rattle.joint.specs.declared.composite.Composite.{Composite}
use Rattle.joint.specs.Composite.{Composes, ModeAfter}

pub compose_unique : (mode : Mode) (left right : ℕ) (a b : Composite) → Composes mode left right a → Composes mode left right b → a ≡ b
compose_unique mode left right a b e f = e ∙ sym f

pub mode_unique : (mode : Mode) (x : ℕ) (a b : Mode) → ModeAfter mode x a → ModeAfter mode x b → a ≡ b
mode_unique mode x a b e f = e ∙ sym f
