-- Order 4: when 14 is given, the order of 4, 5, 14 and the parts' numbers, and that of these the least is given.
use Rattle.std.specs.Prelude.{ℕ, ◌≤◌, Bool, true, false, not, cond, ◌&&◌, ◌||◌, ◌⊎◌, ◌≢◌, ◌↔◌, ◌≡◌, eqb, ltb}
use Rattle.std.proofs.Common.{true≢false, inl, inr, sym, eqb-true, ltb-false, ltb-true, arith}
use Rattle.std.proofs.Math.Path.{refl}
use Rattle.std.proofs.lemmas.Bool.{eqb-false}
use Rattle.pins.specs.declared.record.Pins.{Pins}
use Rattle.links.specs.declared.record.Links.{Links}
use Rattle.links.specs.Record.{plain}
use Rattle.links.specs.Refuse.{fourteen, least, whole_refusal}

-- RT or LD LOW with both reset pins HIGH, or FWFT/SI LOW with MRS LOW; the clocks have no say in it
abbrev pub Fourteen : Pins → Type 0
Fourteen p = ((p.mrs ≡ true) × (p.prs ≡ true) × ((p.rt ≡ false) ⊎ (p.ld ≡ false))) ⊎ ((p.mrs ≡ false) × (p.fwft ≡ false))

fourteen_by : (mrs prs rt ld fwft : Bool) → mrs && prs && (not rt || not ld) || not mrs && not fwft ≡ true
    → ((mrs ≡ true) × (prs ≡ true) × ((rt ≡ false) ⊎ (ld ≡ false))) ⊎ ((mrs ≡ false) × (fwft ≡ false))
fourteen_by true true false ld fwft e = inl (refl, refl, inl refl)
fourteen_by true true true false fwft e = inl (refl, refl, inr refl)
fourteen_by true true true true fwft e = absurd (true≢false (sym e))
fourteen_by true false rt ld fwft e = absurd (true≢false (sym e))
fourteen_by false prs rt ld false e = inr (refl, refl)
fourteen_by false prs rt ld true e = absurd (true≢false (sym e))

by_fourteen : (mrs prs rt ld fwft : Bool) → ((mrs ≡ true) × (prs ≡ true) × ((rt ≡ false) ⊎ (ld ≡ false))) ⊎ ((mrs ≡ false) × (fwft ≡ false))
    → mrs && prs && (not rt || not ld) || not mrs && not fwft ≡ true
by_fourteen mrs prs rt ld fwft (inl (m, p, inl r)) = rw (m, p, r) refl
by_fourteen mrs prs true ld fwft (inl (m, p, inr l)) = rw (m, p, l) refl
by_fourteen mrs prs false ld fwft (inl (m, p, inr l)) = rw (m, p) refl
by_fourteen mrs prs rt ld fwft (inr (m, f)) = rw (m, f) refl

pub exactly_fourteen : (p : Pins) → (fourteen p ≡ true) ↔ Fourteen p
unfolding fourteen
exactly_fourteen p = (fourteen_by p.mrs p.prs p.rt p.ld p.fwft, by_fourteen p.mrs p.prs p.rt p.ld p.fwft)

module _ (x : Links) (started : Bool) (parts : ℕ) where
  pub four_comes : plain x.more ≡ false → whole_refusal x started parts ≡ 4
  unfolding whole_refusal
  four_comes e = rw e refl

  module _ (three : plain x.more ≡ true) where
    pub five_comes : x.pins.mrs ≡ true → started ≡ false → whole_refusal x started parts ≡ 5
    unfolding whole_refusal
    five_comes m s = simp (three, m, s)

    module _ (begun : x.pins.mrs && not started ≡ false) where
      pub fourteen_comes : fourteen x.pins ≡ true → whole_refusal x started parts ≡ 14
      unfolding whole_refusal
      fourteen_comes f = simp (three, begun, f)

      pub then_parts : fourteen x.pins ≡ false → whole_refusal x started parts ≡ parts
      unfolding whole_refusal
      then_parts f = simp (three, begun, f)

-- of two numbers the least that is not 0
pub record Least (one other r : ℕ) : Type 0 where
  pub either : (r ≡ one) ⊎ (r ≡ other)
  pub low_one : one ≢ 0 → (r ≢ 0) × (r ≤ one)
  pub low_other : other ≢ 0 → (r ≢ 0) × (r ≤ other)

least_by : (none nought less : Bool) (one other : ℕ) → eqb one 0 ≡ none → eqb other 0 ≡ nought → ltb one other ≡ less
    → Least one other (cond none other (cond nought one (cond less one other)))
least_by true nought less one other e f g = record { either = inr refl; low_one = λ n. absurd (n (eqb-true one 0 e)); low_other = λ n. (n, omega arith) }
least_by false true less one other e f g = record { either = inl refl; low_one = λ n. (n, omega arith); low_other = λ n. absurd (n (eqb-true other 0 f)) }
least_by false false true one other e f g =
    record { either = inl refl; low_one = λ n. (n, omega arith); low_other = λ n. (eqb-false one 0 e, omega (arith, ltb-true one other g)) }
least_by false false false one other e f g =
    record { either = inr refl; low_one = λ n. (eqb-false other 0 f, ltb-false one other g); low_other = λ n. (n, omega arith) }

pub least_told : (one other : ℕ) → Least one other (least one other)
unfolding least
least_told one other = least_by (eqb one 0) (eqb other 0) (ltb one other) one other refl refl refl
