-- What is turned away, 9: judged by the true number of words accepted since reset, however large.
use Rattle.std.specs.Prelude.{ℕ, ◌+◌, ◌%◌, ◌<◌, Bool, true, false, cond, ◌&&◌, ◌||◌, ◌≡◌, eqb, leb, ltb}
use Rattle.std.proofs.Common.{sym, le-leb, arith}
use Rattle.std.proofs.lemmas.Bool.{lt-leb}
use Rattle.counts.specs.declared.part.Part.{Part}
use Rattle.counts.specs.Part.{depth_of}
use Rattle.counts.specs.Round.{width}
use Rattle.counts.specs.Sized.{Sized, part_sized}
use Rattle.pins.specs.declared.record.Pins.{Pins}
use Rattle.sides.specs.declared.read.Mode.{Mode}
use Rattle.sides.specs.declared.read.Mode.TheVariants.{Standard, Fwft}
use Rattle.sides.specs.declared.write.WriteSide.{WriteSide}
use Rattle.sides.specs.Read.{retransmits}
use Rattle.sides.specs.SinceReset.{Tallies, more_exact, none_exact}
use Rattle.chip.specs.declared.state.State.{State}
use Rattle.refusals.specs.Refuse.{refuses_nine, retransmit_most}

most_below : (depth : ℕ) (mode : Mode) → Sized depth → retransmit_most depth mode < width
most_below depth Standard z = omega (arith, z.some, z.twice)
most_below depth (Fwft untaken) z = omega (arith, z.some, z.twice)

pub nine_exact : (accepted : ℕ) (part : Part) (p : Pins) (s : State) → Tallies accepted s.write
    → refuses_nine (depth_of part) p s
    ≡ retransmits p s.read && (eqb accepted 0 || ltb (retransmit_most (depth_of part) s.read.mode) accepted)
unfolding refuses_nine
nine_exact accepted part p s t =
    rw (
      none_exact accepted s.write t,
      more_exact (retransmit_most (depth_of part) s.read.mode) accepted s.write
          (most_below (depth_of part) s.read.mode (part_sized part)) t,
    )

-- a state hands in such a number, whether or not it was reached
tallied_by : (wrapped : Bool) (count : ℕ) → count < width
    → (count ≡ cond wrapped (width + count) count % width) × (wrapped ≡ leb width (cond wrapped (width + count) count))
tallied_by true count h = (omega arith, sym (le-leb width (width + count) (omega arith)))
tallied_by false count h = (omega arith, sym (lt-leb width count h))

pub tallied : (w : WriteSide) → w.count.0 < width → Tallies (cond w.wrapped (width + w.count.0) w.count.0) w
tallied w h = let both = tallied_by w.wrapped w.count.0 h in record { count = both.0; wrapped = both.1 }
