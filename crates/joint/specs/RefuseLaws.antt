-- Two parts side by side: what lies behind 11.
use Rattle.std.specs.Prelude.{ℕ, ◌+◌, ◌/◌, ◌%◌, ◌^◌, true, ◌≡◌, eqb}
use Rattle.std.proofs.Common.{sym, ap, ◌∙◌, shr-shr, eq-eqb, eqb-true}
use Rattle.pins.specs.Record.{bit, pins_of, with_own}
use Rattle.joint.specs.Refuse.{same_pins}

-- D, its mark and both skew marks may differ
pub others_free : (x y : ℕ) → x / 2 ^ 21 ≡ y / 2 ^ 21 → same_pins x y ≡ true
others_free x y e = eq-eqb (x / 2 ^ 21) (y / 2 ^ 21) e

same_bit : (x y j : ℕ) → x / 2 ^ 21 ≡ y / 2 ^ 21 → bit (21 + j) y ≡ bit (21 + j) x
same_bit x y j e = ap (λ (above : ℕ). eqb (above % 2) 1) (sym (shr-shr y 21 j) ∙ ap (λ (above : ℕ). above / 2 ^ j) (sym e) ∙ shr-shr x 21 j)

-- where two records are not refused 11 they share every other pin
pub same_pins_lem : (x y : ℕ) → same_pins x y ≡ true → pins_of y ≡ with_own (pins_of y).skew (pins_of y).unsettled (pins_of y).d (pins_of x)
same_pins_lem x y e =
    let at : (j : ℕ) → bit (21 + j) y ≡ bit (21 + j) x = λ j. same_bit x y j (eqb-true _ _ e) in
    λ i. record {
      mrs = at 10 i;
      prs = at 9 i;
      wclk = at 8 i;
      rclk = at 7 i;
      wen = at 6 i;
      ren = at 5 i;
      ld = at 4 i;
      sen = at 3 i;
      rt = at 2 i;
      fwft = at 1 i;
      oe = at 0 i;
      skew = (pins_of y).skew;
      unsettled = (pins_of y).unsettled;
      d = (pins_of y).d;
    }
