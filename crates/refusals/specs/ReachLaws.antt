-- What is turned away, 3: a state that samples lead to from power-up passes its test, for it holds true counts.
use Rattle.std.specs.Prelude.{ℕ, ◌+◌, ◌-◌, ◌%◌, ◌≤◌, Bool, true, false, cond, ◌&&◌, ◌≡◌, leb}
use Rattle.std.proofs.Math.Path.{refl}
use Rattle.std.proofs.Common.{le-leb, sym, arith}
use Rattle.counts.specs.declared.part.Part.{Part}
use Rattle.counts.specs.Part.{depth_of}
use Rattle.counts.specs.Round.{behind, less, width}
use Rattle.counts.specs.Sized.{part_sized}
use Rattle.offsets.specs.declared.reading.Reading.{Reading}
use Rattle.offsets.specs.declared.registers.Offsets.{Offsets}
use Rattle.pins.specs.declared.record.Pins.{Pins}
use Rattle.sides.specs.declared.read.Mode.{Mode}
use Rattle.sides.specs.declared.read.Mode.TheVariants.{Standard, Fwft}
use Rattle.sides.specs.CountLaws.{tracks_on}
use Rattle.sides.specs.DecisionLaws.{left_behind}
use Rattle.sides.specs.Tracks.{Allowed, Tracks, Owes, true_after}
use Rattle.views.specs.OrderLaws.{ordered_reset}
use Rattle.views.specs.TrueCounts.{TrueCounts, no_counts}
use Rattle.chip.specs.declared.enables.Enables.{Enables}
use Rattle.chip.specs.declared.state.State.{State}
use Rattle.chip.specs.Advance.{advanced, running, state_after}
use Rattle.chip.specs.HalfLaws.{held_exact}
use Rattle.chip.specs.Tells.{both, high, low, three, write_rise}
use Rattle.refusals.specs.Refuse.{asks_unselected, refusal_of, refuses_eight, refuses_seven, refuses_six, refuses_twelve}
use Rattle.refusals.specs.RefusalLaws.{allowed_by}
use Rattle.refusals.specs.RowLaws.{first_by, tells_eight, tells_seven, tells_six}
use Rattle.refusals.specs.Rows.{FirstRow}
use Rattle.chip.specs.Reset.{cleared, master_reset, partial_reset, powered_up}
use Rattle.chip.specs.ResetLaws.{power_up_passes}
use Rattle.chip.specs.State.{in_reach, passes, widths, words_held}
use Rattle.chip.specs.Widths.{tested_widths, widths_stay}

pub record Reached (part : Part) (s : State) (t : TrueCounts) : Type 0 where
  pub tracks : Tracks (depth_of part) s.write s.read t
  pub narrow : widths part s ≡ true

-- the true counts after a sample that is taken
unfoldable pub counts_after : Part → Pins → State → TrueCounts → TrueCounts
counts_after part p s t = cond p.mrs (cond p.prs (true_after (depth_of part) p s.write s.read t) no_counts) no_counts

none_owed : (mode : Mode) → Owes mode 0 0
none_owed Standard = tt
none_owed (Fwft true) = tt
none_owed (Fwft false) = omega arith

module _ (part : Part) where
  cleared_counts : (started wclk rclk : Bool) (mode : Mode) (o : Offsets) (reading : Reading) (enables : Enables)
      → let s = cleared started wclk rclk mode o reading enables in Tracks (depth_of part) s.write s.read no_counts
  unfolding cleared
  cleared_counts started wclk rclk mode o reading enables = record {
    written = record { count = refl; wrapped = refl };
    read = refl;
    write_first = refl;
    write_second = refl;
    read_first = refl;
    read_second = refl;
    latest_read = tt;
    latest_write = tt;
    ordered = ordered_reset (depth_of part);
    setting = tt;
    owes = none_owed mode;
  }

  pub power_up_reached : Reached part powered_up no_counts
  unfolding powered_up
  power_up_reached = record { tracks = cleared_counts _ _ _ _ _ _ _; narrow = tested_widths part powered_up (power_up_passes part) }

  counts_by_lem : (mrs prs : Bool) (t : TrueCounts) (run kept fresh : State) → (mrs && prs ≡ true → Tracks (depth_of part) run.write run.read t)
      → Tracks (depth_of part) kept.write kept.read no_counts → Tracks (depth_of part) fresh.write fresh.read no_counts
      → let s = cond mrs (cond prs run kept) fresh in Tracks (depth_of part) s.write s.read (cond mrs (cond prs t no_counts) no_counts)
  counts_by_lem true true t run kept fresh r k f = r refl
  counts_by_lem true false t run kept fresh r k f = k
  counts_by_lem false prs t run kept fresh r k f = f

  running_counts : (p : Pins) (fetched : ℕ) (s : State) (t : TrueCounts) → Reached part s t → Allowed (depth_of part) p s.write s.read t
      → Tracks (depth_of part) (running part p fetched s).write (running part p fetched s).read (true_after (depth_of part) p s.write s.read t)
  unfolding running
  running_counts p fetched s t h allowed =
      tracks_on (depth_of part) (part_sized part) s.write s.read t h.tracks p allowed s.offsets.m s.offsets.n fetched

  pub reach_stays : (p : Pins) (fetched : ℕ) (s : State) (t : TrueCounts) → Reached part s t → refusal_of part p s ≡ 0
      → Reached part (advanced part p fetched s).state (counts_after part p s t)
  unfolding advanced state_after counts_after master_reset partial_reset refusal_of refuses_six refuses_seven refuses_eight refuses_twelve
  reach_stays p fetched s t h e =
      let first : FirstRow t.written part p s 0 =
      first_by t.written part p s h.tracks.written (both (low s.started) (high p.mrs)) (tells_six p s)
      (tells_seven p s (λ method. asks_unselected method p) (low p.sen) (low p.wen)) (tells_eight p s)
      (three (write_rise p s) (low p.wen) (high p.unsettled)) 0 (sym e) in
      record {
        tracks = counts_by_lem p.mrs p.prs (true_after (depth_of part) p s.write s.read t) (running part p fetched s) (partial_reset p s) (master_reset p s)
            (λ outside. running_counts p fetched s t h (allowed_by part p s t first outside)) (cleared_counts _ _ _ _ _ _ _) (cleared_counts _ _ _ _ _ _ _);
        narrow = widths_stay part p fetched s h.narrow;
      }

  module _ (s : State) (t : TrueCounts) (h : Reached part s t) where
    exact : (count earlier : ℕ) → count ≡ earlier % width → earlier ≤ t.written → t.written ≤ earlier + depth_of part
        → less width s.write.count.0 count ≡ t.written - earlier
    exact = left_behind (depth_of part) (part_sized part) s.write s.read t h.tracks

    pub words_held_lem : words_held s ≡ t.written - t.read
    words_held_lem = held_exact part s t h.tracks

    near : (count earlier : ℕ) → count ≡ earlier % width → earlier ≤ t.written → t.written ≤ earlier + depth_of part
        → leb (less width s.write.count.0 count) (depth_of part) ≡ true
    near count earlier e l k = rw (exact count earlier e l k) (le-leb (t.written - earlier) (depth_of part) (omega arith))

    ahead_of_read : leb (behind s.write.count s.read.second) (words_held s) ≡ true
    ahead_of_read =
        rw (words_held_lem, exact s.read.second.0 t.read_second h.tracks.read_second (omega arith) (omega arith))
        (le-leb (t.written - t.read_second) (t.written - t.read) (omega arith))

    reach : in_reach (depth_of part) s ≡ true
    unfolding in_reach
    reach =
        simp (
          near s.read.count.0 t.read h.tracks.read (omega arith) (omega arith),
          near s.write.first.0 t.write_first h.tracks.write_first (omega arith) (omega arith),
          near s.write.second.0 t.write_second h.tracks.write_second (omega arith) (omega arith),
          near s.read.first.0 t.read_first h.tracks.read_first (omega arith) (omega arith),
          near s.read.second.0 t.read_second h.tracks.read_second (omega arith) (omega arith),
          ahead_of_read,
        )

    pub reached_passes : passes part s ≡ true
    unfolding passes
    reached_passes = simp (h.narrow, reach)
