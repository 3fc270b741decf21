-- What the onlooker has of each side's stages is what the model's stages hold round their width.
use Rattle.std.specs.Prelude.{ℕ, ◌-◌, Bool, not, cond, ◌&&◌, ◌||◌, ◌≡◌, refl, eqb, length, is_some}
use Rattle.std.proofs.Math.Bool.{true, false}
use mathlib.Core.List.{List, [], ◌∷◌}
use Rattle.std.proofs.Common.{sym}
use Rattle.std.proofs.Math.Path.{subst}
use Rattle.chip.specs.declared.enables.Enables.{Enables}
use Rattle.chip.specs.declared.state.State.{State}
use Rattle.chip.specs.Advance.{advanced, running, state_after}
use Rattle.refusals.specs.ReachLaws.{counts_after}
use Rattle.chip.specs.Reset.{cleared, master_reset, partial_reset, powered_up}
use Rattle.counts.specs.declared.part.Part.{Part}
use Rattle.counts.specs.Part.{depth_of}
use Rattle.fifo.specs.Sample.{After, fetched_for, is_taken, record_refusal, stepped, taken, turned_away}
use Rattle.offsets.specs.declared.reading.Reading.{Reading}
use Rattle.offsets.specs.declared.registers.Offsets.{Offsets}
use Rattle.pins.specs.declared.record.Pins.{Pins}
use Rattle.pins.specs.Record.{pins_of}
use Rattle.sides.specs.declared.read.Mode.{Mode}
use Rattle.sides.specs.Clocks as clocks
use Rattle.sides.specs.Read.{read_after}
use Rattle.sides.specs.RoundLaws.{since_read, since_write}
use Rattle.sides.specs.Tracks.{true_after}
use Rattle.sides.specs.Write.{write_after}
use Rattle.views.specs.declared.retransmit.Setup.{Setup}
use Rattle.views.specs.declared.retransmit.Setup.TheVariants.{Over, OneMore, TwoMore}
use Rattle.views.specs.Retransmit.{setup_after}
use Rattle.views.specs.TrueCounts.{TrueCounts, across, no_counts}
use Rattle.history.specs.Crossing.{Crossing, crossed, crossed_led, crossed_next, crossed_on, crosses, uncrossed}
use Rattle.history.specs.EventLaws.{rises_told, wclk_told}
use Rattle.history.specs.LedLaws.{counts_by, counts_led, counts_next, sample_steps, told_after, told_next}
use Rattle.history.specs.Onlooker.{outside}
use Rattle.history.specs.Told.{Agrees, Told}
use Rattle.history.specs.Trace.{Moment, led, next, power_up, takes}

abbrev pub rises_left : Setup → ℕ
rises_left Over = 0
rises_left OneMore = 1
rises_left TwoMore = 2

pub record Crosses (s : State) (t : TrueCounts) (c : Crossing) : Type 0 where
  pub write_first : c.write_first ≡ t.write_first
  pub write_second : c.write_second ≡ t.write_second
  pub read_first : c.read_first ≡ t.read_first
  pub read_second : c.read_second ≡ t.read_second
  pub delivered_before : c.delivered_before ≡ t.read_before
  pub accepted_before : c.accepted_before ≡ t.written_before
  pub rclk_since : c.rclk_since ≡ is_some s.write.latest
  pub wclk_since : c.wclk_since ≡ is_some s.read.latest
  pub wait : c.wait ≡ rises_left s.read.setup

across_by : (met since : Bool) (before now : ℕ) → crosses met since before now ≡ across met since now before
across_by true true before now = refl
across_by true false before now = refl
across_by false true before now = refl
across_by false false before now = refl

wait_by : (rises rt : Bool) (setup : Setup) → cond rises (cond rt (rises_left setup - 1) 2) (rises_left setup) ≡ rises_left (setup_after rises rt setup)
wait_by false rt setup = refl
wait_by true false setup = refl
wait_by true true Over = refl
wait_by true true OneMore = refl
wait_by true true TwoMore = refl

since_by : (own other since : Bool) → other || not own && since ≡ cond own other (other || since)
since_by true true since = refl
since_by true false since = refl
since_by false other since = refl

module _ (part : Part) (m : Moment) (t : TrueCounts) (g : Agrees part m t) (c : Crossing) (k : Crosses m.state t c) (p : Pins) (fetched : ℕ)
    (away : outside p ≡ true) where
  crosses_on : Crosses (running part p fetched m.state) (true_after (depth_of part) p m.state.write m.state.read t) (crossed_on m.notes p c)
  unfolding crossed_on running write_after read_after true_after
  crosses_on =
      let w = wclk_told part m t g p away in
      let r = rises_told part m t g p away in
      let own = clocks.write_rises p m.state.write in
      let other = clocks.read_rises p m.state.read in
      record {
        write_first = rw (w, k.rclk_since, k.delivered_before, g.read, k.write_first, across_by p.skew.write) refl;
        write_second = rw (w, k.write_first, k.write_second) refl;
        read_first = rw (r, k.wclk_since, k.accepted_before, g.written, k.read_first, across_by p.skew.read) refl;
        read_second = rw (r, k.read_first, k.read_second) refl;
        delivered_before = rw (r, k.delivered_before, g.read) refl;
        accepted_before = rw (w, k.accepted_before, g.written) refl;
        rclk_since = rw (r, w, k.rclk_since, since_read own other m.state.read.count m.state.write.latest) refl;
        wclk_since = rw (r, w, k.wclk_since, since_write other own m.state.write.count m.state.read.latest) (since_by other own _);
        wait = rw (r, k.wait) (wait_by other p.rt m.state.read.setup);
      }

crosses_cleared : (started wclk rclk : Bool) (mode : Mode) (o : Offsets) (reading : Reading) (enables : Enables)
    → Crosses (cleared started wclk rclk mode o reading enables) no_counts uncrossed
unfolding cleared
crosses_cleared started wclk rclk mode o reading enables =
    record {
      write_first = refl;
      write_second = refl;
      read_first = refl;
      read_second = refl;
      delivered_before = refl;
      accepted_before = refl;
      rclk_since = refl;
      wclk_since = refl;
      wait = refl;
    }

-- by the two reset pins
crosses_by : (mrs prs : Bool) (on kept fresh : State) (t : TrueCounts) (c : Crossing) → (mrs && prs ≡ true → Crosses on t c) → Crosses kept no_counts uncrossed
    → Crosses fresh no_counts uncrossed
    → Crosses (cond mrs (cond prs on kept) fresh) (cond mrs (cond prs t no_counts) no_counts) (cond (mrs && prs) c uncrossed)
crosses_by true true on kept fresh t c h k f = h refl
crosses_by true false on kept fresh t c h k f = k
crosses_by false prs on kept fresh t c h k f = f

module _ (part : Part) where
  crosses_after : (m : Moment) (t : TrueCounts) → Agrees part m t → (c : Crossing) → Crosses m.state t c → (p : Pins) (fetched : ℕ)
      → Crosses (advanced part p fetched m.state).state (counts_after part p m.state t) (crossed m.notes p c)
  unfolding advanced state_after counts_after crossed master_reset partial_reset
  crosses_after m t g c k p fetched =
      crosses_by p.mrs p.prs (running part p fetched m.state) (partial_reset p m.state) (master_reset p m.state)
      (true_after (depth_of part) p m.state.write m.state.read t) (crossed_on m.notes p c) (crosses_on part m t g c k p fetched)
      (crosses_cleared _ _ _ _ _ _ _) (crosses_cleared _ _ _ _ _ _ _)

  crosses_taken : (m : Moment) (t : TrueCounts) → Agrees part m t → (c : Crossing) → Crosses m.state t c → (x number : ℕ) (is : Bool)
      → let a = cond is (taken part (pins_of x) m.state m.memory) (turned_away number m.state m.memory) in
      Crosses a.sampled.state (counts_by part m x a t) (cond (is_taken a.sampled.outcome) (crossed m.notes (pins_of x) c) c)
  unfolding taken
  crosses_taken m t g c k x number true = crosses_after m t g c k (pins_of x) (fetched_for part m.state m.memory)
  crosses_taken m t g c k x number false = k

  pub crosses_next : (m : Moment) (t : TrueCounts) → Told part m t → (c : Crossing) → Crosses m.state t c → (x : ℕ)
      → Crosses (next part m x).state (counts_next part m x t) (crossed_next part m x c)
  unfolding next counts_next crossed_next takes stepped
  crosses_next m t g c k x =
      subst (λ (a : After). Crosses a.sampled.state (counts_by part m x a t) (cond (is_taken a.sampled.outcome) (crossed m.notes (pins_of x) c) c))
      (sym (sample_steps part m t g x))
      (crosses_taken m t g.agrees c k x (record_refusal part x m.state) (eqb (record_refusal part x m.state) 0))

  pub crosses_led : (xs : List ℕ) (m : Moment) (t : TrueCounts) → Told part m t → (c : Crossing) → Crosses m.state t c
      → Crosses (led part m xs).state (counts_led part m xs t) (crossed_led part m xs c)
  unfolding led counts_led crossed_led
  crosses_led [] m t g c k = k
  crosses_led (x ∷ xs) m t g c k = crosses_led xs (next part m x) (counts_next part m x t) (told_next part m t g x) (crossed_next part m x c) (crosses_next m t g c k x)

  pub crosses_from : (memory : List ℕ) → length memory ≡ depth_of part → (samples : List ℕ)
      → Crosses (led part (power_up memory) samples).state (counts_led part (power_up memory) samples no_counts)
      (crossed_led part (power_up memory) samples uncrossed)
  unfolding power_up powered_up led counts_led
  crosses_from memory whole samples =
      crosses_led samples (power_up memory) no_counts (told_after part memory whole []) uncrossed (crosses_cleared _ _ _ _ _ _ _)
