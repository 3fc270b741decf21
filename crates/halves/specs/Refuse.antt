-- Two parts side by side: 11, and then each part's own number.
use Rattle.std.specs.Prelude.{ℕ}
use Rattle.counts.specs.declared.part.Part.{Part}
use Rattle.fifo.specs.Sample.{record_refusal}
use Rattle.joint.specs.Refuse.{numbered, same_pins}
use Rattle.halves.specs.declared.state.Halves.{Halves}
use Rattle.halves.specs.Two.{Two}

-- each part's number is that of its own table
unfoldable pub pair_refusal : Part → Two ℕ → Halves → ℕ
pair_refusal part x h =
    numbered (same_pins x.left x.right) (record_refusal part x.left h.left) (record_refusal part x.right h.right)
