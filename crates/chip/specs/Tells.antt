-- A test that tells whether something holds: so a law speaks of levels and numbers, and not of tests.
use Rattle.std.specs.Prelude.{ℕ, ◌≤◌, Bool, true, false, not, ◌&&◌, ◌||◌, ◌⊎◌, ◌↔◌, ◌≡◌, refl, eqb, leb}
use Rattle.std.proofs.Common.{true≢false, inl, inr, ⊎_elim, sym, eqb-true, leb-false, leb-true, arith}
use Rattle.std.proofs.lemmas.Bool.{eqb-false}
use Rattle.pins.specs.declared.record.Pins.{Pins}
use Rattle.sides.specs.Clocks.{read_rises, write_rises}
use Rattle.chip.specs.declared.state.State.{State}
use Rattle.chip.specs.Levels.{High, Low, ReadRise, WriteRise}

pub data Tells (A : Type 0) : Bool → Type 0 where
  yes : A → Tells A true
  no : (¬ A) → Tells A false

pub high : (level : Bool) → Tells (High level) level
high true = yes refl
high false = no (λ e. true≢false (sym e))

pub low : (level : Bool) → Tells (Low level) (not level)
low true = no true≢false
low false = yes refl

at_most_by : (a b : ℕ) (test : Bool) → leb a b ≡ test → Tells (a ≤ b) test
at_most_by a b true e = yes (leb-true a b e)
at_most_by a b false e = no (λ h. omega (arith, leb-false a b e))

pub at_most : (a b : ℕ) → Tells (a ≤ b) (leb a b)
at_most a b = at_most_by a b (leb a b) refl

same_by : (a b : ℕ) (test : Bool) → eqb a b ≡ test → Tells (a ≡ b) test
same_by a b true e = yes (eqb-true a b e)
same_by a b false e = no (eqb-false a b e)

pub same : (a b : ℕ) → Tells (a ≡ b) (eqb a b)
same a b = same_by a b (eqb a b) refl

pub none : {A : Type 0} {a : Bool} → Tells A a → Tells (¬ A) (not a)
none (yes x) = no (λ n. n x)
none (no x) = yes x

pub one : {A B : Type 0} {a b : Bool} → Tells A a → Tells B b → Tells (A ⊎ B) (a || b)
one (yes x) t = yes (inl x)
one (no x) (yes y) = yes (inr y)
one (no x) (no y) = no (⊎_elim x y)

pub both : {A B : Type 0} {a b : Bool} → Tells A a → Tells B b → Tells (A × B) (a && b)
both (yes x) (yes y) = yes (x, y)
both (yes x) (no y) = no (λ all. y all.1)
both (no x) t = no (λ all. x all.0)

pub three : {A B C : Type 0} {a b c : Bool} → Tells A a → Tells B b → Tells C c → Tells (A × B × C) (a && b && c)
three (yes x) (yes y) (yes z) = yes (x, y, z)
three (yes x) (yes y) (no z) = no (λ all. z all.2)
three (yes x) (no y) t = no (λ all. y all.1)
three (no x) s t = no (λ all. x all.0)

pub four : {A B C D : Type 0} {a b c d : Bool} → Tells A a → Tells B b → Tells C c → Tells D d → Tells (A × B × C × D) (a && b && c && d)
four (yes x) (yes y) (yes z) (yes w) = yes (x, y, z, w)
four (yes x) (yes y) (yes z) (no w) = no (λ all. w all.3)
four (yes x) (yes y) (no z) t = no (λ all. z all.2)
four (yes x) (no y) s t = no (λ all. y all.1)
four (no x) r s t = no (λ all. x all.0)

pub fails : {A : Type 0} {test : Bool} → Tells A test → ¬ A → Low test
fails (yes x) n = absurd (n x)
fails (no x) n = refl

-- a flag that is HIGH, and one that is LOW, exactly where something holds
pub high_where : {A : Type 0} {test : Bool} → Tells A test → High test ↔ A
high_where (yes x) = (λ e. x, λ y. refl)
high_where (no x) = (λ e. absurd (true≢false (sym e)), λ y. absurd (x y))

pub low_where : {A : Type 0} {test : Bool} → Tells A test → Low (not test) ↔ A
low_where (yes x) = (λ e. x, λ y. refl)
low_where (no x) = (λ e. absurd (true≢false e), λ y. absurd (x y))

pub write_rise : (p : Pins) (s : State) → Tells (WriteRise p s) (write_rises p s.write)
unfolding write_rises
write_rise p s = both (low s.write.level) (high p.wclk)

pub read_rise : (p : Pins) (s : State) → Tells (ReadRise p s) (read_rises p s.read)
unfolding read_rises
read_rise p s = both (low s.read.level) (high p.rclk)
