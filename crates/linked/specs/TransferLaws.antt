-- Order 4, one transfer: by OR of the earlier part at WEN of the later and IR of the later at REN of the earlier, on one clock, the earlier part
-- gives its word up exactly when the later accepts one.
use Rattle.std.specs.Prelude.{ℕ, Bool, true, false, ◌&&◌, List, [], ◌∷◌, ◌++◌, ◌≡◌}
use Rattle.std.proofs.Math.Bool.{not, cond}
use Rattle.std.proofs.Common.{true≢false, sym, ◌∙◌}
use Rattle.std.proofs.Math.Path.{refl}
use Rattle.counts.specs.Either.{either}
use Rattle.pins.specs.declared.record.Pins.{Pins}
use Rattle.pins.specs.Record.{word}
use Rattle.history.specs.Onlooker.{Notes, Shown, accepts, noted, outside, reads, started_over, went_on}
use Rattle.linked.specs.Taken.{taken_after}

-- the same is asked of both, and the two flags stand in one order or the other
alike_by : (out rise ld ff ef rt : Bool) → (out ≡ true → rt ≡ true)
    → out && rise && ld && not ff && rt && not ef ≡ out && rise && ld && not ef && not ff
alike_by false rise ld ff ef rt h = refl
alike_by true false ld ff ef rt h = refl
alike_by true true false ff ef rt h = refl
alike_by true true true ff ef false h = absurd (true≢false (sym (h refl)))
alike_by true true true true true true h = refl
alike_by true true true true false true h = refl
alike_by true true true false true true h = refl
alike_by true true true false false true h = refl

-- in a reset there is neither
pub reset_reads : (b : Notes) (p : Pins) (shown : Shown) → outside p ≡ false → reads b p shown ≡ false
unfolding reads
reset_reads b p shown e = simp e

pub reset_accepts : (b : Notes) (p : Pins) (shown : Shown) → outside p ≡ false → accepts b p shown ≡ false
unfolding accepts
reset_accepts b p shown e = simp e

-- each sample that is taken leaves the levels of the clocks
pub levels_noted : (b : Notes) (p : Pins) (before after : Shown) → ((noted b p before after).wclk ≡ p.wclk) × ((noted b p before after).rclk ≡ p.rclk)
unfolding noted went_on
levels_noted b p before after =
    let left : Notes → Type 0 = λ m. (m.wclk ≡ p.wclk) × (m.rclk ≡ p.rclk) in
    either left p.mrs _ (started_over p.fwft p)
    (either left p.prs (went_on b p before after) (started_over b.fwft p) (refl, refl) (refl, refl)) (refl, refl)

-- by the two reset pins: a reset leaves no word taken or accepted
handed_by : (mrs prs : Bool) (on over anew : Notes) (words : List ℕ) → (mrs && prs ≡ true → words ≡ on.accepted) → over.accepted ≡ []
    → anew.accepted ≡ [] → cond (mrs && prs) words [] ≡ (cond mrs (cond prs on over) anew).accepted
handed_by true true on over anew words h o f = h refl
handed_by true false on over anew words h o f = sym o
handed_by false prs on over anew words h o f = sym f

-- two neighbours before a sample, by what each has at its pins and shows: `a`, `p` and `first` of the earlier, `b`, `q` and `second` of the later
pub record Joined (a : Notes) (p : Pins) (first : Shown) (b : Notes) (q : Pins) (second : Shown) : Type 0 where
  pub levels : a.rclk ≡ b.wclk
  pub clock : p.rclk ≡ q.wclk
  pub mrs : p.mrs ≡ q.mrs
  pub prs : p.prs ≡ q.prs
  pub ld : p.ld ≡ q.ld
  pub high : outside p ≡ true → p.rt ≡ true
  pub ren : p.ren ≡ second.ff
  pub wen : q.wen ≡ first.ef

module _ (a : Notes) (p : Pins) (first : Shown) (b : Notes) (q : Pins) (second : Shown) (j : Joined a p first b q second) where
  -- both are in FWFT
  module _ (earlier : a.fwft ≡ true) (later : b.fwft ≡ true) where
    pub in_both : reads a p first ≡ accepts b q second
    unfolding reads accepts
    in_both =
        (λ i. p.mrs && p.prs && (not (j.levels i) && j.clock i) && j.ld i && not (j.ren i) && p.rt
        && cond (earlier i) (not first.ef) first.ef)
        ∙ alike_by (p.mrs && p.prs) (not b.wclk && q.wclk) q.ld second.ff first.ef p.rt j.high
        ∙ (λ i. j.mrs i && j.prs i && (not b.wclk && q.wclk) && q.ld && not (sym j.wen i)
        && not (cond (sym later i) second.ff (not second.ff)))

  -- the words taken from the earlier are those accepted by the later, and so they stay
  module _ (words : List ℕ) (after : Shown) (equal : words ≡ b.accepted) (same : outside p ≡ true → reads a p first ≡ accepts b q second)
      (given : outside p ≡ true → first.register ≡ word q.d) where
    went_on_lem : outside p ≡ true → cond (reads a p first) (words ++ (first.register ∷ [])) words ≡ (went_on b q second after).accepted
    unfolding went_on
    went_on_lem away = λ i. cond (same away i) (equal i ++ (given away i ∷ [])) (equal i)

    pub stay_equal : taken_after a p first words ≡ (noted b q second after).accepted
    unfolding taken_after noted
    stay_equal =
        handed_by p.mrs p.prs (went_on b q second after) (started_over b.fwft q) (started_over q.fwft q) _ went_on_lem refl refl
        ∙ (λ i. (cond (j.mrs i) (cond (j.prs i) (went_on b q second after) (started_over b.fwft q)) (started_over q.fwft q)).accepted)
