-- What the onlooker tells of a sample outside reset is what happens in the two sides.
use Rattle.std.specs.Prelude.{ℕ, Bool, true, false, not, cond, ◌&&◌, ◌||◌, ◌≡◌, refl}
use Rattle.chip.specs.declared.state.State.{State}
use Rattle.chip.specs.Advance.{running}
use Rattle.chip.specs.Answer.{ef_level, ff_level, lines_of}
use Rattle.chip.specs.ResetLaws.{is_fwft}
use Rattle.counts.specs.declared.part.Part.{Part}
use Rattle.counts.specs.Part.{depth_of}
use Rattle.pins.specs.declared.record.Pins.{Pins}
use Rattle.sides.specs.declared.read.Mode.{Mode}
use Rattle.sides.specs.declared.read.Mode.TheVariants.{Standard, Fwft}
use Rattle.sides.specs.Clocks as clocks
use Rattle.sides.specs.Read as read
use Rattle.sides.specs.Read.{delivers_by, mode_after, read_after, ready_by, sees_word}
use Rattle.sides.specs.Write as write
use Rattle.views.specs.TrueCounts.{TrueCounts}
use Rattle.history.specs.Onlooker.{Notes, accepts, delivers, full, outside, rclk_rises, reads, ready, retransmits, wclk_rises}
use Rattle.history.specs.Told.{Agrees}
use Rattle.history.specs.Trace.{Moment, shown_by}

-- each flag, read by the mode, tells what it was set by
full_by : (mode : Mode) (isFull : Bool) → cond (is_fwft mode) (ff_level mode isFull) (not (ff_level mode isFull)) ≡ isFull
full_by Standard true = refl
full_by Standard false = refl
full_by (Fwft untaken) isFull = refl

ready_by_lem : (mode : Mode) (isReady : Bool) → cond (is_fwft mode) (not (ef_level mode isReady)) (ef_level mode isReady) ≡ isReady
ready_by_lem Standard isReady = refl
ready_by_lem (Fwft untaken) true = refl
ready_by_lem (Fwft untaken) false = refl

-- in FWFT, by whether the read side sees a word, one is untaken and it is read
came_by : (seen untaken taken : Bool)
    → not (not (seen && not (untaken && not taken) || untaken && not taken)) && (not (not (not untaken)) || taken) ≡ seen && not (untaken && not taken)
came_by true true true = refl
came_by true true false = refl
came_by true false taken = refl
came_by false true true = refl
came_by false true false = refl
came_by false false taken = refl

delivers_by_lem : (mode : Mode) (rises rt seen after taken : Bool)
    → let delivered = delivers_by mode (rises && rt && seen) taken in let left = mode_after mode (rises && not rt) delivered taken in
    cond (is_fwft mode) (rises && rt && not (ef_level left (ready_by left after)) && (not (not (ef_level mode (ready_by mode seen))) || taken)) taken ≡ delivered
delivers_by_lem Standard rises rt seen after taken = refl
delivers_by_lem (Fwft untaken) false rt seen after taken = refl
delivers_by_lem (Fwft untaken) true false seen after taken = refl
delivers_by_lem (Fwft untaken) true true seen after taken = came_by seen untaken taken

pub ready_told : (part : Part) (m : Moment) (t : TrueCounts) → Agrees part m t → ready m.notes.fwft (shown_by part m.state) ≡ read.ready m.state.read
unfolding shown_by lines_of
ready_told part m t g = rw g.fwft (ready_by_lem m.state.read.mode (read.ready m.state.read))

pub full_told : (part : Part) (m : Moment) (t : TrueCounts) → Agrees part m t
    → full m.notes.fwft (shown_by part m.state) ≡ write.full (depth_of part) m.state.write
unfolding shown_by lines_of
full_told part m t g = rw g.fwft (full_by m.state.read.mode (write.full (depth_of part) m.state.write))

module _ (part : Part) (m : Moment) (t : TrueCounts) (g : Agrees part m t) (p : Pins) (away : outside p ≡ true) where
  abbrev b : Notes
  b = m.notes

  abbrev s : State
  s = m.state

  pub accepts_told : accepts b p (shown_by part s) ≡ write.accepts (depth_of part) p s.write
  unfolding accepts write.accepts clocks.write_rises
  accepts_told = rw (away, g.wclk, full_told part m t g)

  pub wclk_told : wclk_rises b p ≡ clocks.write_rises p s.write
  unfolding clocks.write_rises
  wclk_told = rw (away, g.wclk)

  pub rises_told : rclk_rises b p ≡ clocks.read_rises p s.read
  unfolding clocks.read_rises
  rises_told = rw (away, g.rclk)

  pub retransmits_told : retransmits b p ≡ read.retransmits p s.read
  unfolding retransmits read.retransmits clocks.read_rises
  retransmits_told = rw (away, g.rclk)

  pub reads_told : reads b p (shown_by part s) ≡ read.reads p s.read
  unfolding reads read.reads clocks.read_rises
  reads_told = rw (away, g.rclk, ready_told part m t g)

  pub delivers_told : (fetched : ℕ) → delivers b p (shown_by part s) (shown_by part (running part p fetched s)) ≡ read.delivers p s.read
  unfolding delivers read.delivers read.ready read.retransmits shown_by lines_of running read_after clocks.read_rises
  delivers_told fetched =
      rw (reads_told, away, g.rclk, g.fwft)
      (delivers_by_lem s.read.mode (clocks.read_rises p s.read) p.rt (sees_word s.read) (sees_word (running part p fetched s).read)
      (read.reads p s.read))
