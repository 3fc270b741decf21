-- The timing mode that the composite flags go by, through a sample of two parts.
use Rattle.std.specs.Prelude.{ℕ, cond, List, ◌≡◌}
use Rattle.std.proofs.Common.{sym, ◌∙◌}
use Rattle.chip.specs.declared.state.State.{State}
use Rattle.chip.specs.Advance.{advanced}
use Rattle.chip.specs.ResetLaws.{is_fwft, mode_follows}
use Rattle.counts.specs.declared.part.Part.{Part}
use Rattle.fifo.specs.Sample.{fetched_for, record_refusal, stepped, taken}
use Rattle.halves.specs.declared.state.Halves.{Halves}
use Rattle.joint.specs.Composite.{mode_next}
use Rattle.joint.specs.CompositeLaws.{next_fwft}
use Rattle.halves.specs.Refuse.{pair_refusal}
use Rattle.joint.specs.RefuseLaws.{same_pins_lem}
use Rattle.halves.specs.Two.{Two}
use Rattle.pins.specs.Record.{pins_of}
use Rattle.pair.specs.Sample.{After, pair_stepped}
use Rattle.pair.specs.SampleLaws.{free_both, single_taken, step_both, step_by}

half_told : (part : Part) (x : ℕ) (s : State) (memory : List ℕ) → record_refusal part x s ≡ 0
    → is_fwft (stepped part x s memory).sampled.state.read.mode ≡ is_fwft (mode_next s.read.mode x)
unfolding taken advanced
half_told part x s memory e =
    rw (single_taken part x s memory e) (mode_follows part (pins_of x) (fetched_for part s memory) s ∙ sym (next_fwft s.read.mode x))

module _ (part : Part) (x : Two ℕ) (h : Halves) (memory : Two (List ℕ)) where
  -- what a reader of answers works out is the mode of either half, as far as Standard or FWFT goes
  pub mode_told : pair_refusal part x h ≡ 0 → let after = (pair_stepped part x h memory).sampled.state in
      (is_fwft after.left.read.mode ≡ is_fwft (mode_next h.left.read.mode x.left))
      × (is_fwft after.right.read.mode ≡ is_fwft (mode_next h.right.read.mode x.right))
  mode_told e =
      let free = free_both part x h e in
      rw (step_both part x h memory e)
      (half_told part x.left h.left memory.left free.0, half_told part x.right h.right memory.right free.1)

  -- so a sample keeps both halves in one mode, taken or not
  pub one_mode_stays : is_fwft h.left.read.mode ≡ is_fwft h.right.read.mode → let after = (pair_stepped part x h memory).sampled.state in
      is_fwft after.left.read.mode ≡ is_fwft after.right.read.mode
  one_mode_stays same =
      step_by part x h memory (λ (a : After). is_fwft a.sampled.state.left.read.mode ≡ is_fwft a.sampled.state.right.read.mode)
      (λ e.
      let free = free_both part x h e in
      let pins = same_pins_lem x.left x.right free.2 in
      let left = half_told part x.left h.left memory.left free.0 ∙ next_fwft h.left.read.mode x.left in
      let right = half_told part x.right h.right memory.right free.1 ∙ next_fwft h.right.read.mode x.right in
      left ∙ (λ i. cond (sym pins i).mrs (same i) (sym pins i).fwft) ∙ sym right)
      same
