-- The two sides and Retransmit, from power-up on: every flag is judged by the true numbers of words, however many have gone through, and only a
-- delivery changes the output register.
--
-- Said, as in Histories.antt, of the model's own definition of one sample, for either part, any words in its memory at power-up, and any samples.
-- The words accepted and delivered, the rises and what came across are an onlooker's (Onlooker.antt, Crossing.antt), whose numbers go round no width.
-- Of the state only the offsets come in. Runs and calls from C lead to such moments too, and their answers' bits are these flags: Histories.antt.
use Rattle.std.specs.Prelude.{ℕ, ◌+◌, ◌-◌, ◌/◌, ◌≤◌, ◌<◌, true, false, not, cond, ◌&&◌, ◌||◌, List, ◌∷◌, ◌≡◌, eqb, leb, ltb, get_or, length}
use Rattle.chip.specs.Answer.{lines_of}
use Rattle.counts.specs.declared.part.Part.{Part}
use Rattle.counts.specs.Part.{depth_of}
use Rattle.pins.specs.declared.answer.Lines.{Lines}
use Rattle.pins.specs.declared.record.Pins.{Pins}
use Rattle.pins.specs.Record.{pins_of}
use Rattle.history.specs.BackLaws.{back_shown}
use Rattle.history.specs.Crossing.{Crossing, accepted, crossed_led, crossed_next, delivered, sees_word, uncrossed}
use Rattle.history.specs.CrossingLaws.{crosses_from}
use Rattle.history.specs.FlagLaws.{full_judged, half_judged, in_order, output_judged, pae_judged, paf_judged, ready_judged, register_judged}
use Rattle.history.specs.LagLaws.{still_full}
use Rattle.history.specs.LedLaws.{told_after}
use Rattle.history.specs.Onlooker.{delivers, full, outside, rclk_rises, reads, ready, wclk_rises}
use Rattle.history.specs.Trace.{Moment, led, next, power_up, shown_by, takes, undisturbed, wclk_rises_in, write_skew_met}

abbrev pub lines_at : Part → Moment → Lines
lines_at part m = lines_of part false m.state

-- At a moment.
pub record Judged (part : Part) (m : Moment) (c : Crossing) : Type 0 where
  -- each difference below is of a number less one that is not above it
  pub order : (delivered m ≤ c.read_second) × (c.read_second ≤ accepted m) × (c.write_second ≤ accepted m)
  -- FF LOW or IR HIGH
  pub full : full m.notes.fwft (shown_by part m.state) ≡ eqb (accepted m - c.write_second) (depth_of part)
  -- HF HIGH
  pub half : (lines_at part m).hf ≡ not (ltb (depth_of part / 2) (accepted m - delivered m))
  -- EF HIGH
  pub empty : m.notes.fwft ≡ false → ready false (shown_by part m.state) ≡ sees_word m c

-- Through a sample that is taken, outside reset, from one moment to the next; the offsets are those before it. What a reset leaves is said in
-- chip's ResetLaws.antt.
pub record Moved (part : Part) (m : Moment) (c : Crossing) (p : Pins) (after : Moment) (then : Crossing) : Type 0 where
  -- PAF HIGH: judged at each rise of WCLK, and kept without
  pub paf : (lines_at part after).paf
      ≡ cond (wclk_rises m.notes p) (not (leb (depth_of part - m.state.offsets.m) (accepted after - then.write_second))) (lines_at part m).paf
  -- PAE HIGH: judged at each rise of RCLK that leaves no setup running, and kept without
  pub pae : (lines_at part after).pae
      ≡ cond (rclk_rises m.notes p && eqb then.wait 0) (not (leb (then.read_second - delivered after) m.state.offsets.n)) (lines_at part m).pae
  -- OR LOW: at a rise of RCLK with RT HIGH where the word that was ready is not read, or one was seen before the rise
  pub output : m.notes.fwft ≡ true → let before = shown_by part m.state in
      ready true (shown_by part after.state)
      ≡ cond (rclk_rises m.notes p) (p.rt && (ready true before && not (reads m.notes p before) || sees_word m c)) (ready true before)
  -- the output register, in both modes: the next of the words accepted where one is delivered, and kept without, in a retransmit and an offset read too
  pub register : let before = shown_by part m.state in let shown = shown_by part after.state in
      shown.register ≡ cond (delivers m.notes p before shown) (get_or m.notes.accepted (delivered m) 0) before.register

module _ (part : Part) (memory : List ℕ) (whole : length memory ≡ depth_of part) (samples : List ℕ) where
  abbrev there : Moment
  there = led part (power_up memory) samples

  abbrev crossing : Crossing
  crossing = crossed_led part (power_up memory) samples uncrossed

  pub flags_judged : Judged part there crossing
  flags_judged =
      let told = told_after part memory whole samples in
      let crosses = crosses_from part memory whole samples in
      record {
        order = in_order part there _ told crossing crosses;
        full = full_judged part there _ told crossing crosses;
        half = half_judged part there _ told crossing crosses;
        empty = ready_judged part there _ told crossing crosses;
      }

  pub flags_moved : (x : ℕ) → takes part there x ≡ true → outside (pins_of x) ≡ true
      → Moved part there crossing (pins_of x) (next part there x) (crossed_next part there x crossing)
  flags_moved x taken away =
      let told = told_after part memory whole samples in
      let crosses = crosses_from part memory whole samples in
      record {
        paf = paf_judged part there _ told crossing crosses x taken away;
        pae = pae_judged part there _ told crossing crosses x taken away;
        output = output_judged part there _ told crossing crosses x taken away;
        register = register_judged part there _ told crossing crosses x taken away;
      }

  -- FF and IR come back in time. The words delivered at a moment, such as one just after a read, leave room for as many again from the second rise
  -- of WCLK on, from the third where the first misses the skew: not full, unless all that room is taken.
  pub back_in_time : (later : List ℕ) → undisturbed part there later ≡ true → cond (write_skew_met part there later) 2 3 ≤ wclk_rises_in part there later
      → let after = led part there later in
      accepted after < delivered there + depth_of part → full after.notes.fwft (shown_by part after.state) ≡ false
  back_in_time = back_shown part there _ (told_after part memory whole samples) crossing (crosses_from part memory whole samples)

  -- And not at the first. Where memory holds as many words as it is deep, full stays shown whatever a sample reads, and through the first rise of
  -- WCLK after it.
  pub not_at_first : (x : ℕ) (later : List ℕ) → accepted there ≡ delivered there + depth_of part → undisturbed part there (x ∷ later) ≡ true
      → wclk_rises_in part (next part there x) later ≤ 1
      → let after = led part (next part there x) later in full after.notes.fwft (shown_by part after.state) ≡ true
  not_at_first = still_full part there _ (told_after part memory whole samples) crossing (crosses_from part memory whole samples)
