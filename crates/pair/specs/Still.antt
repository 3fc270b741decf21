-- Two records that are never refused and move only what is remembered of the pins, in both parts.
use Rattle.std.specs.Prelude.{ℕ, Bool, ◌&&◌}
use Rattle.chip.specs.Answer.{answer_of}
use Rattle.chip.specs.Quiet.{held}
use Rattle.counts.specs.declared.part.Part.{Part}
use Rattle.fifo.specs.Outcome as fifo
use Rattle.fifo.specs.Still.{still}
use Rattle.pins.specs.Record.{pins_of}
use Rattle.pair.specs.Outcome.{Sampled}
use Rattle.halves.specs.declared.state.Halves.{Halves}
use Rattle.joint.specs.Refuse.{same_pins}
use Rattle.pair.specs.Sample.{joined}
use Rattle.halves.specs.Two.{Two}

unfoldable pub still_both : Two ℕ → Halves → Bool
still_both x h = same_pins x.left x.right && still x.left h.left && still x.right h.right

abbrev pub held_both : Part → Two ℕ → Halves → Sampled
held_both part x h =
    joined
    (record { outcome = fifo.Taken (answer_of part (pins_of x.left) h.left); state = held (pins_of x.left) h.left })
    (record { outcome = fifo.Taken (answer_of part (pins_of x.right) h.right); state = held (pins_of x.right) h.right })
