-- Two parts side by side: the test of 3 taken apart.
use Rattle.std.specs.Prelude.{Bool, true, false, ◌≡◌, refl}
use Rattle.std.proofs.Common.{true≢false, sym}
use Rattle.chip.specs.Reset.{powered_up}
use Rattle.chip.specs.ResetLaws.{is_fwft, power_up_passes}
use Rattle.chip.specs.State.{passes, widths}
use Rattle.chip.specs.Widths.{tested_widths}
use Rattle.counts.specs.declared.part.Part.{Part}
use Rattle.counts.specs.Both.{both}
use Rattle.halves.specs.declared.state.Halves.{Halves}
use Rattle.halves.specs.State.{alike, passes_both, powered_up_both}

alike_same : (left right : Bool) → alike left right ≡ true → left ≡ right
alike_same true true e = refl
alike_same true false e = absurd (true≢false (sym e))
alike_same false true e = absurd (true≢false (sym e))
alike_same false false e = refl

pub alike_itself : (fwft : Bool) → alike fwft fwft ≡ true
alike_itself true = refl
alike_itself false = refl

pub record Passed (part : Part) (h : Halves) : Type 0 where
  pub left : passes part h.left ≡ true
  pub right : passes part h.right ≡ true
  pub mode : is_fwft h.left.read.mode ≡ is_fwft h.right.read.mode

pub tested_both : (part : Part) (h : Halves) → passes_both part h ≡ true → Passed part h
unfolding passes_both
tested_both part h e =
    let all = both _ _ e in
    let halves = both _ _ all.0 in
    record { left = halves.0; right = halves.1; mode = alike_same _ _ all.1 }

-- and nothing else in which the halves differ is 3
pub both_pass : (part : Part) (h : Halves) → Passed part h → passes_both part h ≡ true
unfolding passes_both
both_pass part h p = simp (p.left, p.right, p.mode, alike_itself (is_fwft h.right.read.mode))

pub tested_both_widths : (part : Part) (h : Halves) → passes_both part h ≡ true → (widths part h.left ≡ true) × (widths part h.right ≡ true)
tested_both_widths part h e =
    let passed = tested_both part h e in
    (tested_widths part h.left passed.left, tested_widths part h.right passed.right)

pub power_up_passes_both : (part : Part) → passes_both part powered_up_both ≡ true
unfolding passes_both
power_up_passes_both part = simp (power_up_passes part, alike_itself (is_fwft powered_up.read.mode))
