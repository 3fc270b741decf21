-- Enables before retransmit, paper 02, order 3: where 8 comes, and where it does not.
use Rattle.std.specs.Prelude.{ℕ, Bool, false, cond, ◌&&◌, ◌≢◌, ◌↔◌, ◌≡◌, refl}
use Rattle.std.proofs.Math.Bool.{true, true≢false}
use Rattle.std.proofs.Math.Logic.{inr}
use Rattle.std.proofs.Common.{⊎_elim, sym, ◌∙◌, arith}
use Rattle.counts.specs.declared.part.Part.{Part}
use Rattle.counts.specs.Either.{either}
use Rattle.pins.specs.declared.record.Pins.{Pins}
use Rattle.chip.specs.declared.state.State.{State}
use Rattle.chip.specs.Levels.{High, Low, Outside, ReadRise, Unclean}
use Rattle.chip.specs.Tells.{Tells, yes, no, both, high, high_where, low}
use Rattle.refusals.specs.Refuse.{asks_unselected, refusal_of, refuses_eight, refuses_five, refuses_seven, refuses_six}
use Rattle.refusals.specs.RowLaws.{tells_eight, tells_seven, tells_six}
use Rattle.refusals.specs.Rows.{Row5, Row6, Row7, Row8}

-- no row before 8 holds, and no reset passes over it
abbrev pub Reaches : Pins → State → Type 0
Reaches p s = (¬ Row5 p s) × Outside p × (¬ Row6 p s) × (¬ Row7 p s)

eight_by : {Five Out Six Seven Eight : Type 0} {five outside six seven eight : Bool} {further : ℕ} → Tells Five five → Tells Out outside → Tells Six six
    → Tells Seven seven → Tells Eight eight → further ≢ 8
    → (cond five 5 (cond outside (cond six 6 (cond seven 7 (cond eight 8 further))) 0) ≡ 8) ↔ (((¬ Five) × Out × (¬ Six) × (¬ Seven)) × Eight)
eight_by (yes x) o a b c n = (λ e. absurd (omega (arith, e)), λ all. absurd (all.0.0 x))
eight_by (no x) (no o) a b c n = (λ e. absurd (omega (arith, e)), λ all. absurd (o all.0.1))
eight_by (no x) (yes o) (yes a) b c n = (λ e. absurd (omega (arith, e)), λ all. absurd (all.0.2 a))
eight_by (no x) (yes o) (no a) (yes b) c n = (λ e. absurd (omega (arith, e)), λ all. absurd (all.0.3 b))
eight_by (no x) (yes o) (no a) (no b) (yes c) n = (λ e. ((x, o, a, b), c), λ all. refl)
eight_by (no x) (yes o) (no a) (no b) (no c) n = (λ e. absurd (n e), λ all. absurd (c all.1))

behind_eight : (nine ten twelve : Bool) → cond {A = ℕ} nine 9 (cond ten 10 (cond twelve 12 0)) ≢ 8
behind_eight nine ten twelve =
    let other : ℕ → Type 0 = λ n. n ≢ 8 in
    either other nine 9 _ (λ e. omega arith) (either other ten 10 _ (λ e. omega arith) (either other twelve 12 0 (λ e. omega arith) (λ e. omega arith)))

-- where none comes row 8 does not hold
none_by : (five six seven eight : Bool) (further : ℕ) → cond five 5 (cond six 6 (cond seven 7 (cond eight 8 further))) ≡ 0 → Low eight
none_by true six seven eight further e = absurd (omega (arith, e))
none_by false true seven eight further e = absurd (omega (arith, e))
none_by false false true eight further e = absurd (omega (arith, e))
none_by false false false true further e = absurd (omega (arith, e))
none_by false false false false further e = refl

module _ (part : Part) (p : Pins) (s : State) where
  -- by tests that tell of the rows
  told_by : {five six seven eight : Bool} (nine ten twelve : Bool) → Tells (Row5 p s) five → Tells (Row6 p s) six → Tells (Row7 p s) seven
      → Tells (Row8 p s) eight
      → (cond {A = ℕ} five 5 (cond (p.mrs && p.prs) (cond six 6 (cond seven 7 (cond eight 8 (cond nine 9 (cond ten 10 (cond twelve 12 0)))))) 0) ≡ 8)
      ↔ (Reaches p s × Row8 p s)
  told_by nine ten twelve five six seven eight =
      eight_by five (both (high p.mrs) (high p.prs)) six seven eight (behind_eight nine ten twelve)

  -- a rise of RCLK with RT LOW, outside reset, is refused 8 exactly where no earlier row holds and an enable is LOW at it or the fall was unclean
  pub eight_exactly : (refusal_of part p s ≡ 8) ↔ (Reaches p s × Row8 p s)
  unfolding refusal_of refuses_six refuses_seven refuses_eight
  eight_exactly =
      told_by _ _ _ (both (low s.started) (high p.mrs)) (tells_six p s) (tells_seven p s (λ method. asks_unselected method p) (low p.sen) (low p.wen)) (tells_eight p s)

  -- after a clean fall it does not come with both enables HIGH
  pub clean_passes : ¬ Unclean p s.enables → High p.ren → High p.wen → refusal_of part p s ≢ 8
  unfolding refusal_of refuses_six refuses_seven refuses_eight
  clean_passes clean ren wen e =
      let eight =
      told_by _ _ _ (both (low s.started) (high p.mrs)) (tells_six p s) (tells_seven p s (λ method. asks_unselected method p) (low p.sen) (low p.wen)) (tells_eight p s) in
      ⊎_elim (⊎_elim (λ low. true≢false (sym ren ∙ low)) (λ low. true≢false (sym wen ∙ low))) clean (eight.0 e).1.2

  -- and after an unclean one each rise with that RT LOW is refused
  pub unclean_not_taken : Outside p → ReadRise p s → Low p.rt → Unclean p s.enables → refusal_of part p s ≢ 0
  unfolding refusal_of refuses_eight
  unclean_not_taken outside rise rt unclean e =
      let all : p.mrs && p.prs ≡ true = simp (outside.0, outside.1) in
      let none = none_by (refuses_five p s) (refuses_six p s) (refuses_seven p s) (refuses_eight p s) _ (simp all at e) in
      true≢false (sym ((high_where (tells_eight p s)).1 (rise, rt, inr unclean)) ∙ none)

  -- with 8, where LD is not LOW, which may bring 6 or 7 first
  pub unclean_refused : High s.started → Outside p → High p.ld → ReadRise p s → Low p.rt → Unclean p s.enables → refusal_of part p s ≡ 8
  unfolding refusal_of refuses_six refuses_seven refuses_eight
  unclean_refused started outside ld rise rt unclean =
      let loads : ¬ Low p.ld = λ low. true≢false (sym ld ∙ low) in
      let eight =
      told_by _ _ _ (both (low s.started) (high p.mrs)) (tells_six p s) (tells_seven p s (λ method. asks_unselected method p) (low p.sen) (low p.wen)) (tells_eight p s) in
      eight.1 ((λ five. true≢false (sym started ∙ five.0), outside, λ six. loads six.1, λ seven. loads seven.1), (rise, rt, inr unclean))
