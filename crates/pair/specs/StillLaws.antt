-- Two records that are never refused and move only what is remembered of the pins.
use Rattle.std.specs.Prelude.{ℕ, true, List, ◌≡◌}
use Rattle.std.proofs.Common.{◌∙◌}
use Rattle.counts.specs.declared.part.Part.{Part}
use Rattle.counts.specs.Both.{both}
use Rattle.fifo.specs.Still.{still}
use Rattle.fifo.specs.StillLaws.{still_free, still_stepped}
use Rattle.halves.specs.declared.state.Halves.{Halves}
use Rattle.joint.specs.Refuse.{same_pins}
use Rattle.halves.specs.Refuse.{pair_refusal}
use Rattle.pair.specs.Sample.{pair_stepped}
use Rattle.pair.specs.SampleLaws.{step_both}
use Rattle.pair.specs.Still.{held_both, still_both}
use Rattle.halves.specs.Two.{Two}

record StillEach (x : Two ℕ) (h : Halves) : Type 0 where
  pins : same_pins x.left x.right ≡ true
  left : still x.left h.left ≡ true
  right : still x.right h.right ≡ true

still_each : (x : Two ℕ) (h : Halves) → still_both x h ≡ true → StillEach x h
unfolding still_both
still_each x h e =
    let all = both _ _ e in
    let first = both _ _ all.0 in
    record { pins = first.0; left = first.1; right = all.1 }

module _ (part : Part) (x : Two ℕ) (h : Halves) (e : still_both x h ≡ true) where
  still_free_both : pair_refusal part x h ≡ 0
  unfolding pair_refusal
  still_free_both =
      let a = still_each x h e in
      simp (a.pins, still_free part x.left h.left a.left, still_free part x.right h.right a.right)

  pub still_stepped_both : (memory : Two (List ℕ)) → pair_stepped part x h memory ≡ record { sampled = held_both part x h; memory = memory }
  still_stepped_both memory =
      let a = still_each x h e in
      step_both part x h memory still_free_both
      ∙ simp (still_stepped part x.left h.left memory.left a.left, still_stepped part x.right h.right memory.right a.right)
