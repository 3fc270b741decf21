-- One part in FWFT with no retransmit: of the words delivered all are taken but the one that is ready, if one is; and so the words accepted are those
-- taken and then what the part holds.
use Prim.Native.Nat.{ℕ}
use Rattle.std.specs.Prelude.{Bool, true, false, cond, ◌&&◌, ◌||◌, ◌≡◌, refl, ℕ, None}
use Rattle.std.proofs.Math.Bool.{not, and-false}
use Rattle.std.proofs.Common.{true≢false, ◌∙◌, take-append-drop}
use mathlib.Core.List.{List, [], ◌∷◌, ◌++◌, append_assoc, append-nil}
use Rattle.std.proofs.Math.Path.{sym, ap}
use Rattle.std.proofs.Math.ListN.{drop, length}
use Rattle.std.proofs.lemmas.Bool.{not-true}
use Rattle.chip.specs.declared.enables.Enables.{Enables}
use Rattle.chip.specs.declared.state.State.{State}
use Rattle.chip.specs.Advance.{advanced, memory_after, running, state_after}
use Rattle.chip.specs.Answer.{lines_of}
use Rattle.chip.specs.Reset.{cleared, kept_mode, master_reset, partial_reset, selected_mode}
use Rattle.chip.specs.ResetLaws.{is_fwft, master_wins}
use Rattle.counts.specs.declared.part.Part.{Part}
use Rattle.counts.specs.Both.{both}
use Rattle.fifo.specs.Sample.{fetched_for}
use Rattle.offsets.specs.declared.reading.Reading.{Reading}
use Rattle.offsets.specs.declared.registers.Next.{Next}
use Rattle.offsets.specs.declared.registers.Offsets.{Offsets}
use Rattle.offsets.specs.Reading.{ended, reading_after}
use Rattle.pins.specs.declared.record.Pins.{Pins}
use Rattle.pins.specs.Record.{pins_of}
use Rattle.sides.specs.declared.read.Mode.{Mode}
use Rattle.sides.specs.declared.read.Mode.TheVariants.{Standard, Fwft}
use Rattle.sides.specs.declared.read.ReadSide.{ReadSide}
use Rattle.sides.specs.Clocks.{read_rises, write_rises}
use Rattle.sides.specs.Read as read
use Rattle.sides.specs.Read.{delivers_by, mode_after, read_after, ready_by, sees_word}
use Rattle.sides.specs.RegisterLaws.{left_by}
use Rattle.sides.specs.Write.{write_after}
use Rattle.views.specs.declared.retransmit.Setup.{Setup}
use Rattle.views.specs.declared.retransmit.Setup.TheVariants.{Over}
use Rattle.views.specs.declared.retransmit.View.{View}
use Rattle.views.specs.declared.retransmit.View.TheVariants.{Seen}
use Rattle.views.specs.Retransmit.{setup_after, view_after}
use Rattle.views.specs.TrueCounts.{TrueCounts}
use Rattle.history.specs.EventLaws.{delivers_told, reads_told, ready_told, retransmits_told}
use Rattle.history.specs.KeptLaws.{first_delivered, remainder_in_memory}
use Rattle.history.specs.Onlooker.{Notes, Shown, noted, outside, reads, started_over, went_on}
use Rattle.history.specs.TakenLaws.{moved_on, taken_next_lem}
use Rattle.history.specs.Told.{Agrees, Told}
use Rattle.history.specs.Trace.{Moment, at, next, shown_by, takes}
use Rattle.history.specs.WentOnLaws.{agrees_on}
use Rattle.linked.specs.Taken.{Plain, inside, taken_after, untaken}

-- a reset leaves no word ready
kept_none : (mode : Mode) → is_fwft mode ≡ true → kept_mode mode ≡ Fwft false
kept_none Standard e = absurd (true≢false (sym e))
kept_none (Fwft untaken) e = refl

module _ (part : Part) (memory : List ℕ) (p : Pins) where
  plain_over : (started fwft : Bool) (mode : Mode) (o : Offsets) (next : Next) (enables : Enables) → fwft ≡ true → mode ≡ Fwft false
      → Plain part (at (cleared started p.wclk p.rclk mode o (ended next) enables) memory (started_over fwft p)) []
  unfolding cleared shown_by lines_of read.ready
  plain_over started fwft mode o next enables e none = record { setup = refl; view = refl; shows = refl; fwft = e; split = rw (e, none) }

  plain_master : (s : State) → p.fwft ≡ true → Plain part (at (master_reset p s) memory (started_over p.fwft p)) []
  unfolding master_reset
  plain_master s high = plain_over _ p.fwft _ _ _ _ high (ap selected_mode high)

  plain_partial : (s : State) (fwft : Bool) → fwft ≡ true → is_fwft s.read.mode ≡ true
      → Plain part (at (partial_reset p s) memory (started_over fwft p)) []
  unfolding partial_reset
  plain_partial s fwft e mode = plain_over _ fwft _ _ _ _ e (kept_none s.read.mode mode)

-- outside reset no retransmit begins while RT is HIGH, and no offset is shown while LD is
over_stays : (rises rt : Bool) (setup : Setup) → rt ≡ true → setup ≡ Over → setup_after rises rt setup ≡ Over
over_stays true rt setup high e = rw (high, e)
over_stays false rt setup high e = e

seen_stays : (rises after : Bool) (view : View) → view ≡ Seen → view_after false rises after view ≡ Seen
seen_stays true after view e = rw e
seen_stays false after view e = e

register_stays : (p : Pins) (rises : Bool) (o : Offsets) (reading : Reading) → p.ld ≡ true → reading.shows ≡ None
    → (reading_after p rises o reading).shows ≡ None
unfolding reading_after
register_stays p true o reading high e = rw high
register_stays p false o reading high e = e

-- a word that was ready is taken or stays ready; one that is delivered is ready after it
split_by : (ready taken delivered : Bool) (words : List ℕ) (old new : ℕ) → (taken ≡ true → ready ≡ true)
    → (delivered ≡ true → ready && not taken ≡ false) → (delivered ≡ false → new ≡ old)
    → let before = words ++ cond ready (old ∷ []) [] in
    cond delivered (before ++ (new ∷ [])) before ≡ cond taken (words ++ (old ∷ [])) words ++ cond (delivered || ready && not taken) (new ∷ []) []
split_by true true true words old new h k same = refl
split_by true true false words old new h k same = sym (append-nil (words ++ (old ∷ [])))
split_by true false true words old new h k same = absurd (true≢false (k refl))
split_by true false false words old new h k same = rw (same refl)
split_by false true delivered words old new h k same = absurd (true≢false (sym (h refl)))
split_by false false true words old new h k same = rw append-nil
split_by false false false words old new h k same = refl

comes_after : (may keeps : Bool) → may && not keeps ≡ true → keeps ≡ false
comes_after may keeps e = not-true keeps (both may (not keeps) e).1

split_on : (mode : Mode) (back may taken seen later : Bool) (words : List ℕ) (old new : ℕ) → is_fwft mode ≡ true → back ≡ false
    → (taken ≡ true → ready_by mode seen ≡ true)
    → let delivered = delivers_by mode may taken in let before = words ++ cond (ready_by mode seen) (old ∷ []) [] in
    (delivered ≡ false → new ≡ old)
    → cond delivered (before ++ (new ∷ [])) before
    ≡ cond taken (words ++ (old ∷ [])) words ++ cond (ready_by (mode_after mode back delivered taken) later) (new ∷ []) []
split_on Standard back may taken seen later words old new e still h same = absurd (true≢false (sym e))
split_on (Fwft ready) back may taken seen later words old new e still h same =
    rw still (split_by ready taken (may && not (ready && not taken)) words old new h (comes_after may (ready && not taken)) same)

untaken_told : (part : Part) (m : Moment) (t : TrueCounts) → Agrees part m t
    → untaken part m ≡ cond (read.ready m.state.read) (m.state.read.output ∷ []) []
unfolding shown_by
untaken_told part m t g = rw (ready_told part m t g)

module _ (part : Part) (m : Moment) (t : TrueCounts) (g : Told part m t) (taken : List ℕ) (h : Plain part m taken) where
  -- the words accepted are those taken, and then what the part holds
  pub words : m.notes.accepted ≡ taken ++ inside part m
  unfolding inside
  words =
      let many = length m.notes.delivered in
      sym (take-append-drop many m.notes.accepted)
      ∙ ap (λ (l : List ℕ). l ++ drop many m.notes.accepted) (sym (first_delivered part m t g) ∙ h.split)
      ∙ ap (λ (l : List ℕ). (taken ++ untaken part m) ++ l) (remainder_in_memory part m t g)
      ∙ append_assoc taken (untaken part m) _

  in_fwft : is_fwft m.state.read.mode ≡ true
  in_fwft = sym g.agrees.fwft ∙ h.fwft

  -- a sample outside reset
  module _ (p : Pins) (away : outside p ≡ true) (rt : p.rt ≡ true) (ld : p.ld ≡ true) (memory : List ℕ) where
    abbrev r : ReadSide
    r = m.state.read

    abbrev fetched : ℕ
    fetched = fetched_for part m.state m.memory

    abbrev after : State
    after = running part p fetched m.state

    abbrev on : Moment
    on = at after memory (went_on m.notes p (shown_by part m.state) (shown_by part after))

    abbrev taken_on : List ℕ
    taken_on = cond (reads m.notes p (shown_by part m.state)) (taken ++ ((shown_by part m.state).register ∷ [])) taken

    -- the words delivered before it
    abbrev before : List ℕ
    before = taken ++ cond (read.ready r) (r.output ∷ []) []

    none_back : read.retransmits p r ≡ false
    unfolding read.retransmits
    none_back = simp (rt, and-false)

    delivered_on : on.notes.delivered ≡ cond (read.delivers p r) (before ++ (after.read.output ∷ [])) before
    unfolding went_on shown_by
    delivered_on =
        rw (retransmits_told part m t g.agrees p away, none_back, delivers_told part m t g.agrees p away fetched)
        (rw (h.split, untaken_told part m t g.agrees))

    read_ready : read.reads p r ≡ true → read.ready r ≡ true
    unfolding read.reads
    read_ready e = (both (read_rises p r && p.ld && not p.ren && p.rt) (read.ready r) e).1

    register_kept : read.delivers p r ≡ false → after.read.output ≡ r.output
    unfolding running
    register_kept e = (left_by m.state.offsets.n p fetched m.state.write r e).output

    split_told : cond (read.delivers p r) (before ++ (after.read.output ∷ [])) before
        ≡ cond (read.reads p r) (taken ++ (r.output ∷ [])) taken ++ cond (read.ready after.read) (after.read.output ∷ []) []
    unfolding running read_after read.delivers read.ready
    split_told =
        split_on r.mode (read.retransmits p r) _ (read.reads p r) (sees_word r) (sees_word after.read) taken r.output after.read.output
        in_fwft none_back read_ready register_kept

    split_stays : on.notes.delivered ≡ taken_on ++ untaken part on
    unfolding shown_by
    split_stays =
        rw (untaken_told part _ _ (agrees_on part m t g p away), reads_told part m t g.agrees p away)
        (delivered_on ∙ split_told)

    plain_on : Plain part on taken_on
    unfolding running read_after write_after went_on
    plain_on = record {
      setup = over_stays (read_rises p r) p.rt r.setup rt h.setup;
      view = rw none_back (seen_stays (write_rises p m.state.write) _ m.state.write.view h.view);
      shows = register_stays p (read_rises p r) m.state.offsets m.state.reading ld h.shows;
      fwft = h.fwft;
      split = split_stays;
    }

-- by the two reset pins
by_reset : (P : State → Notes → List ℕ → Type 0) (mrs prs : Bool) (on kept fresh : State) (noting : State → Notes) (over anew : Notes)
    (taken : List ℕ) → (mrs && prs ≡ true → P on (noting on) taken) → P kept over [] → (mrs ≡ false → P fresh anew [])
    → let s = cond mrs (cond prs on kept) fresh in P s (cond mrs (cond prs (noting s) over) anew) (cond (mrs && prs) taken [])
by_reset P true true on kept fresh noting over anew taken a b c = a refl
by_reset P true false on kept fresh noting over anew taken a b c = b
by_reset P false prs on kept fresh noting over anew taken a b c = c refl

noted_anew : (b : Notes) (p : Pins) (before after : Shown) → p.mrs ≡ false → noted b p before after ≡ started_over p.fwft p
unfolding noted
noted_anew b p before after low = simp low

module _ (part : Part) (m : Moment) (t : TrueCounts) (g : Told part m t) where
  -- pins that are not refused
  pub plain_moved : (taken : List ℕ) → Plain part m taken → (p : Pins) → (outside p ≡ true → (p.rt ≡ true) × (p.ld ≡ true))
      → (p.mrs ≡ false → p.fwft ≡ true) → Plain part (moved_on part m p) (taken_after m.notes p (shown_by part m.state) taken)
  unfolding advanced state_after memory_after noted taken_after
  plain_moved taken h p high selected =
      let memory : List ℕ = memory_after part p m.state m.memory in
      by_reset (λ s notes words. Plain part (at s memory notes) words) p.mrs p.prs
      (running part p (fetched_for part m.state m.memory) m.state) (partial_reset p m.state) (master_reset p m.state)
      (λ s. went_on m.notes p (shown_by part m.state) (shown_by part s)) _ _ _
      (λ away. plain_on part m t g taken h p away (high away).0 (high away).1 memory)
      (plain_partial part memory p m.state m.notes.fwft h.fwft (in_fwft part m t g taken h))
      (λ low. plain_master part memory p m.state (selected low))

  -- a sample that is taken
  pub plain_next : (taken : List ℕ) → Plain part m taken → (x : ℕ) → takes part m x ≡ true
      → (outside (pins_of x) ≡ true → ((pins_of x).rt ≡ true) × ((pins_of x).ld ≡ true)) → ((pins_of x).mrs ≡ false → (pins_of x).fwft ≡ true)
      → Plain part (next part m x) (taken_after m.notes (pins_of x) (shown_by part m.state) taken)
  plain_next taken h x is high selected = rw (taken_next_lem part m t g x is).0 (plain_moved taken h (pins_of x) high selected)

  -- a Master Reset with FWFT HIGH, at any moment, as at power-up, where no mode is selected yet
  pub plain_anew : (p : Pins) → p.mrs ≡ false → p.fwft ≡ true → Plain part (moved_on part m p) []
  unfolding advanced
  plain_anew p low high =
      rw (master_wins part p (fetched_for part m.state m.memory) m.state low, noted_anew m.notes p (shown_by part m.state) _ low)
      (plain_master part _ p m.state high)

  pub plain_reset : (x : ℕ) → takes part m x ≡ true → (pins_of x).mrs ≡ false → (pins_of x).fwft ≡ true → Plain part (next part m x) []
  plain_reset x is low high = rw (taken_next_lem part m t g x is).0 (plain_anew (pins_of x) low high)
