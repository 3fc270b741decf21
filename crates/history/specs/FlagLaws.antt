-- What the flags show at a moment, and after a sample, in the onlooker's numbers of words; and what a sample leaves in the output register.
use Rattle.std.specs.Prelude.{ℕ, ◌-◌, ◌/◌, ◌≤◌, Bool, not, cond, ◌&&◌, ◌||◌, ◌≡◌, eqb, leb, ltb, get_or}
use Rattle.std.proofs.Math.Bool.{true, false}
use Rattle.std.proofs.Common.{true≢false, ◌∙◌, arith}
use Rattle.std.proofs.Math.Path.{refl, sym, ap, subst}
use Rattle.chip.specs.declared.state.State.{State}
use Rattle.chip.specs.Advance.{advanced, running, state_after}
use Rattle.chip.specs.Answer.{ef_level, lines_of}
use Rattle.chip.specs.HalfLaws.{half_exact}
use Rattle.chip.specs.ResetLaws.{is_fwft, stays_fwft}
use Rattle.counts.specs.declared.part.Part.{Part}
use Rattle.counts.specs.Part.{depth_of}
use Rattle.counts.specs.Sized.{part_sized}
use Rattle.fifo.specs.Sample.{After, fetched_for, is_taken, record_refusal, stepped, taken, turned_away}
use Rattle.pins.specs.declared.record.Pins.{Pins}
use Rattle.pins.specs.Record.{pins_of}
use Rattle.sides.specs.declared.read.Mode.{Mode}
use Rattle.sides.specs.declared.read.Mode.TheVariants.{Standard, Fwft}
use Rattle.sides.specs.Clocks as clocks
use Rattle.sides.specs.ExactLaws.{full_exact, pae_exact, paf_exact, sees_exact}
use Rattle.sides.specs.Read as read
use Rattle.sides.specs.Read.{delivers_by, mode_after, read_after, ready_by}
use Rattle.sides.specs.Tracks.{Tracks}
use Rattle.views.specs.declared.retransmit.Setup.{Setup}
use Rattle.views.specs.declared.retransmit.Setup.TheVariants.{Over, OneMore, TwoMore}
use Rattle.views.specs.Retransmit.{is_over}
use Rattle.views.specs.TrueCounts.{TrueCounts}
use Rattle.history.specs.Crossing.{Crossing, accepted, crossed_next, delivered, sees_word}
use Rattle.history.specs.CrossingLaws.{Crosses, crosses_next, rises_left}
use Rattle.history.specs.EventLaws.{delivers_told, full_told, reads_told, ready_told, rises_told, wclk_told}
use Rattle.history.specs.LedLaws.{counts_next, sample_steps, told_next}
use Rattle.history.specs.Onlooker.{delivers, full, outside, rclk_rises, reads, ready, wclk_rises}
use Rattle.history.specs.TimeLaws.{on_by}
use Rattle.history.specs.Told.{Told}
use Rattle.history.specs.WentOnLaws.{register_after_lem}
use Rattle.history.specs.Trace.{Moment, next, shown_by, takes}

over_by : (setup : Setup) → is_over setup ≡ eqb (rises_left setup) 0
over_by Over = refl
over_by OneMore = refl
over_by TwoMore = refl

standard_by : (mode : Mode) (seen : Bool) → is_fwft mode ≡ false → ready_by mode seen ≡ seen
standard_by Standard seen e = refl
standard_by (Fwft untaken) seen e = absurd (true≢false e)

module _ (part : Part) (m : Moment) (t : TrueCounts) (g : Told part m t) (c : Crossing) (k : Crosses m.state t c) where
  pub in_order : (delivered m ≤ c.read_second) × (c.read_second ≤ accepted m) × (c.write_second ≤ accepted m)
  in_order = omega arith

  pub full_judged : full m.notes.fwft (shown_by part m.state) ≡ eqb (accepted m - c.write_second) (depth_of part)
  full_judged =
      rw (g.agrees.written, k.write_second)
      (full_told part m t g.agrees ∙ full_exact (depth_of part) (part_sized part) m.state.write m.state.read t g.reached.tracks)

  pub half_judged : (lines_of part false m.state).hf ≡ not (ltb (depth_of part / 2) (accepted m - delivered m))
  half_judged = rw (g.agrees.written, g.agrees.read) (half_exact part m.state t g.reached.tracks false)

  sees_judged : read.sees_word m.state.read ≡ sees_word m c
  sees_judged =
      rw (k.wait, k.read_second, g.agrees.read)
      (sees_exact (depth_of part) (part_sized part) m.state.write m.state.read t g.reached.tracks
      ∙ ap (λ (over : Bool). over && not (eqb t.read_second t.read)) (over_by m.state.read.setup))

  pub ready_judged : m.notes.fwft ≡ false → ready false (shown_by part m.state) ≡ sees_word m c
  unfolding read.ready
  ready_judged e =
      ap (λ (fwft : Bool). ready fwft (shown_by part m.state)) (sym e) ∙ ready_told part m t g.agrees
      ∙ standard_by m.state.read.mode (read.sees_word m.state.read) (sym g.agrees.fwft ∙ e) ∙ sees_judged

-- OR LOW, one ready
fwft_shows : (mode : Mode) (isReady : Bool) → is_fwft mode ≡ true → not (ef_level mode isReady) ≡ isReady
fwft_shows Standard isReady e = absurd (true≢false (sym e))
fwft_shows (Fwft untaken) true e = refl
fwft_shows (Fwft untaken) false e = refl

-- OR after a sample in FWFT: at a rise a word that was ready and is not read stays, or one that is seen comes
left_ready : (seen kept : Bool) → seen && not kept || kept ≡ kept || seen
left_ready true true = refl
left_ready true false = refl
left_ready false true = refl
left_ready false false = refl

output_by : (mode : Mode) (rises ld ren rt seen after : Bool) → is_fwft mode ≡ true
    → let taking = rises && ld && not ren && rt && ready_by mode seen in
    ready_by (mode_after mode (rises && not rt) (delivers_by mode (rises && rt && seen) taking) taking) after
    ≡ cond rises (rt && (ready_by mode seen && not taking || seen)) (ready_by mode seen)
output_by Standard rises ld ren rt seen after e = absurd (true≢false (sym e))
output_by (Fwft true) false ld ren rt seen after e = refl
output_by (Fwft false) false ld ren rt seen after e = refl
output_by (Fwft untaken) true ld ren false seen after e = refl
output_by (Fwft untaken) true ld ren true seen after e = left_ready seen (untaken && not (ld && not ren && true && untaken))

module _ (part : Part) (m : Moment) (t : TrueCounts) (g : Told part m t) (c : Crossing) (k : Crosses m.state t c) (x : ℕ) where
  abbrev p : Pins
  p = pins_of x

  abbrev on : State
  on = running part p (fetched_for part m.state m.memory) m.state

  taken_by : (is : Bool) → let a = cond is (taken part p m.state m.memory) (turned_away (record_refusal part x m.state) m.state m.memory) in
      is_taken a.sampled.outcome ≡ true → a.sampled.state ≡ (advanced part p (fetched_for part m.state m.memory) m.state).state
  unfolding taken
  taken_by true e = refl
  taken_by false e = absurd (true≢false (sym e))

  module _ (takes-it : takes part m x ≡ true) (away : outside p ≡ true) where
    went_on_lem : (next part m x).state ≡ on
    unfolding next takes stepped advanced state_after
    went_on_lem =
        subst (λ (a : After). is_taken a.sampled.outcome ≡ true → a.sampled.state ≡ state_after part p (fetched_for part m.state m.memory) m.state)
        (sym (sample_steps part m t g x)) (taken_by (eqb (record_refusal part x m.state) 0)) takes-it
        ∙ on_by p.mrs p.prs on _ _ away

    tracks_then : Tracks (depth_of part) on.write on.read (counts_next part m x t)
    tracks_then =
        subst (λ (s : State). Tracks (depth_of part) s.write s.read (counts_next part m x t)) went_on_lem (told_next part m t g x).reached.tracks

    abbrev after : Moment
    after = next part m x

    abbrev then : Crossing
    then = crossed_next part m x c

    pub paf_judged : (lines_of part false after.state).paf
        ≡ cond (wclk_rises m.notes p) (not (leb (depth_of part - m.state.offsets.m) (accepted after - then.write_second))) (lines_of part false m.state).paf
    unfolding lines_of running
    paf_judged =
        rw (went_on_lem, wclk_told part m t g.agrees p away, (told_next part m t g x).agrees.written, (crosses_next part m t g c k x).write_second)
        (paf_exact (depth_of part) (part_sized part) m.state.write m.state.read p m.state.offsets.m m.state.offsets.n _ _ tracks_then)

    over_then : is_over on.read.setup ≡ eqb then.wait 0
    over_then = rw ((crosses_next part m t g c k x).wait, went_on_lem) (over_by on.read.setup)

    pub pae_judged : (lines_of part false after.state).pae
        ≡ cond (rclk_rises m.notes p && eqb then.wait 0) (not (leb (then.read_second - delivered after) m.state.offsets.n))
        (lines_of part false m.state).pae
    unfolding lines_of running
    pae_judged =
        rw (went_on_lem, rises_told part m t g.agrees p away, ← over_then, (told_next part m t g x).agrees.read, (crosses_next part m t g c k x).read_second)
        (pae_exact (depth_of part) (part_sized part) m.state.write m.state.read p m.state.offsets.m m.state.offsets.n _ _ tracks_then)

    pub output_judged : m.notes.fwft ≡ true → let before = ready true (shown_by part m.state) in
        ready true (shown_by part after.state)
        ≡ cond (rclk_rises m.notes p) (p.rt && (before && not (reads m.notes p (shown_by part m.state)) || sees_word m c)) before
    unfolding shown_by lines_of running read_after read.ready read.retransmits read.delivers read.reads
    output_judged e =
        let fwft = sym g.agrees.fwft ∙ e in
        let mode = m.state.read.mode in
        let rises = clocks.read_rises p m.state.read in
        rw (
          went_on_lem,
          rises_told part m t g.agrees p away,
          reads_told part m t g.agrees p away,
          ← sees_judged part m t g c k,
          fwft_shows mode (ready_by mode (read.sees_word m.state.read)) fwft,
          fwft_shows on.read.mode (read.ready on.read) (sym (stays_fwft mode _ _ _) ∙ fwft),
        )
        (output_by mode rises p.ld p.ren p.rt (read.sees_word m.state.read) (read.sees_word on.read) fwft)

    pub register_judged : let before = shown_by part m.state in let shown = shown_by part after.state in
        shown.register ≡ cond (delivers m.notes p before shown) (get_or m.notes.accepted (delivered m) 0) before.register
    unfolding shown_by
    register_judged =
        rw (went_on_lem, delivers_told part m t g.agrees p away (fetched_for part m.state m.memory), g.agrees.read)
        (register_after_lem part m t g p (read.delivers p m.state.read) refl)
