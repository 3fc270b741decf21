-- The two sides, HF: how many words memory holds, told by true counts.
use Rattle.std.specs.Prelude.{ℕ, ◌-◌, ◌/◌, Bool, ◌≡◌, ltb}
use Rattle.std.proofs.Math.Bool.{not}
use Rattle.std.proofs.Math.Path.{ap}
use Rattle.std.proofs.Common.{arith}
use Rattle.counts.specs.declared.part.Part.{Part}
use Rattle.counts.specs.Part.{depth_of}
use Rattle.counts.specs.Sized.{part_sized}
use Rattle.sides.specs.DecisionLaws.{left_behind}
use Rattle.sides.specs.Tracks.{Tracks}
use Rattle.views.specs.TrueCounts.{TrueCounts}
use Rattle.chip.specs.declared.state.State.{State}
use Rattle.chip.specs.Answer.{lines_of}
use Rattle.chip.specs.State.{words_held}

module _ (part : Part) (s : State) (t : TrueCounts) (g : Tracks (depth_of part) s.write s.read t) where
  pub held_exact : words_held s ≡ t.written - t.read
  held_exact = left_behind (depth_of part) (part_sized part) s.write s.read t g s.read.count.0 t.read g.read (omega arith) (omega arith)

  pub half_exact : (oe : Bool) → (lines_of part oe s).hf ≡ not (ltb (depth_of part / 2) (t.written - t.read))
  unfolding lines_of
  half_exact oe = ap (λ (words : ℕ). not (ltb (depth_of part / 2) words)) held_exact
