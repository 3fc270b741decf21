-- What is turned away, 9, on the words accepted since reset: the write side keeps their true number, however large.
use Rattle.std.specs.Prelude.{ℕ, ◌+◌, Bool, true, false, cond, refl}
use Rattle.counts.specs.declared.part.Part.{Part}
use Rattle.counts.specs.Part.{depth_of}
use Rattle.offsets.specs.declared.reading.Reading.{Reading}
use Rattle.offsets.specs.declared.registers.Offsets.{Offsets}
use Rattle.pins.specs.declared.record.Pins.{Pins}
use Rattle.sides.specs.declared.read.Mode.{Mode}
use Rattle.sides.specs.SinceReset.{Tallies, tallies_after}
use Rattle.sides.specs.Write.{accepts}
use Rattle.chip.specs.declared.enables.Enables.{Enables}
use Rattle.chip.specs.declared.state.State.{State}
use Rattle.chip.specs.Advance.{running, state_after}
use Rattle.chip.specs.Reset.{cleared, master_reset, partial_reset, powered_up}

-- words accepted since reset, after one more sample
abbrev pub accepted_after : Part → Pins → State → ℕ → ℕ
accepted_after part p s accepted =
    cond p.mrs (cond p.prs (cond (accepts (depth_of part) p s.write) (accepted + 1) accepted) 0) 0

cleared_tallies : (started wclk rclk : Bool) (mode : Mode) (o : Offsets) (reading : Reading) (enables : Enables)
    → Tallies 0 (cleared started wclk rclk mode o reading enables).write
unfolding cleared
cleared_tallies started wclk rclk mode o reading enables = record { count = refl; wrapped = refl }

pub power_up_tallies : Tallies 0 powered_up.write
unfolding powered_up
power_up_tallies = cleared_tallies _ _ _ _ _ _ _

tallies_by : (accepted : ℕ) (mrs prs : Bool) (run kept fresh : State) → Tallies accepted run.write → Tallies 0 kept.write → Tallies 0 fresh.write
    → Tallies (cond mrs (cond prs accepted 0) 0) (cond mrs (cond prs run kept) fresh).write
tallies_by accepted true true run kept fresh r k f = r
tallies_by accepted true false run kept fresh r k f = k
tallies_by accepted false prs run kept fresh r k f = f

pub tally_stays : (accepted : ℕ) (part : Part) (p : Pins) (fetched : ℕ) (s : State) → Tallies accepted s.write
    → Tallies (accepted_after part p s accepted) (state_after part p fetched s).write
unfolding state_after running master_reset partial_reset
tally_stays accepted part p fetched s t =
    tallies_by (cond (accepts (depth_of part) p s.write) (accepted + 1) accepted) p.mrs p.prs
    (running part p fetched s) (partial_reset p s) (master_reset p s)
    (tallies_after accepted (depth_of part) _ p s.read s.write t)
    (cleared_tallies _ _ _ _ _ _ _) (cleared_tallies _ _ _ _ _ _ _)
