-- Two parts side by side: the order of the refusals, 11, the left part's own number, the right part's own.
use Rattle.std.specs.Prelude.{ℕ, ◌/◌, ◌^◌, ◌≢◌, ◌≡◌}
use borrow.Author.Tests.{eq-eqb, ne_eqb}
use Rattle.counts.specs.declared.part.Part.{Part}
use Rattle.fifo.specs.NumberLaws.{by_pins}
use Rattle.pins.specs.Record.{pins_of}
use Rattle.refusals.specs.Refuse.{refusal_of}
use Rattle.halves.specs.declared.state.Halves.{Halves}
use Rattle.joint.specs.Refuse.{first_of}
use Rattle.halves.specs.Refuse.{pair_refusal}
use Rattle.halves.specs.Two.{Two}

module _ (part : Part) (x : Two ℕ) (h : Halves) where
  pub eleven_comes : x.left / 2 ^ 21 ≢ x.right / 2 ^ 21 → pair_refusal part x h ≡ 11
  unfolding pair_refusal
  eleven_comes n = simp (ne_eqb (x.left / 2 ^ 21) (x.right / 2 ^ 21) n)

  pub then_by_parts : x.left / 2 ^ 21 ≡ x.right / 2 ^ 21
      → pair_refusal part x h ≡ first_of (refusal_of part (pins_of x.left) h.left) (refusal_of part (pins_of x.right) h.right)
  unfolding pair_refusal
  then_by_parts same =
      simp (by_pins part x.left h.left, by_pins part x.right h.right, eq-eqb (x.left / 2 ^ 21) (x.right / 2 ^ 21) same)
