-- Each sample that is taken keeps what holds between the model and the onlooker's notes; a reset starts the notes over.
use Rattle.std.specs.Prelude.{ℕ, Bool, true, false, cond, ◌&&◌, List, ◌≡◌, refl, length, Option, None}
use Rattle.chip.specs.declared.advance.Put.{Put}
use Rattle.std.proofs.Math.Path.{sym}
use Rattle.std.proofs.Common.{◌∙◌, arith}
use Rattle.chip.specs.declared.enables.Enables.{Enables}
use Rattle.chip.specs.declared.state.State.{State}
use Rattle.chip.specs.Advance.{advanced, running, state_after, store_of, stored}
use Rattle.refusals.specs.ReachLaws.{counts_after}
use Rattle.chip.specs.Reset.{cleared, kept_mode, master_reset, partial_reset, selected_mode}
use Rattle.chip.specs.ResetLaws.{is_fwft, kept_fwft, selected_fwft}
use Rattle.counts.specs.declared.part.Part.{Part}
use Rattle.counts.specs.Part.{depth_of}
use Rattle.fifo.specs.Sample.{fetched_for}
use Rattle.offsets.specs.declared.reading.Reading.{Reading}
use Rattle.offsets.specs.declared.registers.Offsets.{Offsets}
use Rattle.pins.specs.declared.record.Pins.{Pins}
use Rattle.sides.specs.declared.read.Mode.{Mode}
use Rattle.sides.specs.declared.read.Mode.TheVariants.{Standard, Fwft}
use Rattle.sides.specs.Write.{accepts}
use Rattle.views.specs.TrueCounts.{TrueCounts, no_counts}
use Rattle.history.specs.Onlooker.{Notes, noted, started_over, went_on}
use Rattle.history.specs.Told.{Agrees, Came, Told}
use Rattle.history.specs.Trace.{Moment, at, shown_by}
use Rattle.history.specs.WentOnLaws.{agrees_on}

-- a reset leaves no word untaken
selected_none : (fwft : Bool) → Came (selected_mode fwft) 0
selected_none true = tt
selected_none false = tt

partial_none : (mode : Mode) → Came (kept_mode mode) 0
partial_none Standard = tt
partial_none (Fwft untaken) = tt

module _ (part : Part) (memory : List ℕ) (whole : length memory ≡ depth_of part) (p : Pins) where
  agrees_over : (started fwft : Bool) (mode : Mode) (o : Offsets) (reading : Reading) (enables : Enables) → fwft ≡ is_fwft mode → Came mode 0
      → Agrees part (at (cleared started p.wclk p.rclk mode o reading enables) memory (started_over fwft p)) no_counts
  unfolding cleared
  agrees_over started fwft mode o reading enables e none = record {
    whole = whole;
    wclk = refl;
    rclk = refl;
    fwft = e;
    written = refl;
    read = refl;
    holds = λ i l near. absurd (omega arith);
    same = refl;
    newest = λ some. absurd (omega arith);
    came = none;
  }

  agrees_master : (s : State) → Agrees part (at (master_reset p s) memory (started_over p.fwft p)) no_counts
  unfolding master_reset
  agrees_master s = agrees_over _ p.fwft _ _ _ _ (sym (selected_fwft p.fwft)) (selected_none p.fwft)

  agrees_partial : (s : State) (fwft : Bool) → fwft ≡ is_fwft s.read.mode → Agrees part (at (partial_reset p s) memory (started_over fwft p)) no_counts
  unfolding partial_reset
  agrees_partial s fwft e = agrees_over _ fwft _ _ _ _ (e ∙ sym (kept_fwft s.read.mode)) (partial_none s.read.mode)

-- by the two reset pins
by_reset : (P : State → Option Put → Notes → TrueCounts → Type 0) (mrs prs stores : Bool) (on kept fresh : State) (put : Option Put) (noting : State → Notes)
    (over anew : Notes) (t u : TrueCounts) → (mrs && prs ≡ true → P on (cond stores put None) (noting on) t) → P kept None over u → P fresh None anew u
    → let s = cond mrs (cond prs on kept) fresh in
    P s (cond (mrs && prs && stores) put None) (cond mrs (cond prs (noting s) over) anew) (cond mrs (cond prs t u) u)
by_reset P true true stores on kept fresh put noting over anew t u a b c = a refl
by_reset P true false stores on kept fresh put noting over anew t u a b c = b
by_reset P false prs stores on kept fresh put noting over anew t u a b c = c

module _ (part : Part) (m : Moment) (t : TrueCounts) (g : Told part m t) (p : Pins) where
  pub agrees_after : let a = advanced part p (fetched_for part m.state m.memory) m.state in
      Agrees part (at a.state (stored a.store m.memory) (noted m.notes p (shown_by part m.state) (shown_by part a.state)))
      (counts_after part p m.state t)
  unfolding advanced state_after store_of noted counts_after
  agrees_after =
      by_reset (λ s store notes u. Agrees part (at s (stored store m.memory) notes) u) p.mrs p.prs (accepts (depth_of part) p m.state.write)
      (running part p (fetched_for part m.state m.memory) m.state) (partial_reset p m.state) (master_reset p m.state) _
      (λ s. went_on m.notes p (shown_by part m.state) (shown_by part s)) _ _ _ no_counts
      (agrees_on part m t g p)
      (agrees_partial part m.memory g.agrees.whole p m.state m.notes.fwft g.agrees.fwft)
      (agrees_master part m.memory g.agrees.whole p m.state)
