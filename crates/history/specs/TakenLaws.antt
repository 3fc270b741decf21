-- Where a sample leads, by whether it is taken.
use Rattle.std.specs.Prelude.{ℕ, Bool, not, cond, ◌&&◌, ◌≡◌, eqb}
use Rattle.std.proofs.Math.Bool.{true, false}
use Rattle.std.proofs.Common.{true≢false, sym, ◌∙◌}
use Rattle.std.proofs.Math.Path.{refl, subst}
use borrow.Author.Tests.{eqb-true, not-true}
use Rattle.chip.specs.Advance.{advanced, stored}
use Rattle.counts.specs.declared.part.Part.{Part}
use Rattle.counts.specs.Both.{both}
use Rattle.fifo.specs.NumberLaws.{by_pins}
use Rattle.fifo.specs.Sample.{After, fetched_for, is_taken, record_refusal, stepped, taken, turned_away}
use Rattle.pins.specs.declared.record.Pins.{Pins}
use Rattle.pins.specs.Record.{pins_of, unsettled_in}
use Rattle.refusals.specs.ReachLaws.{counts_after}
use Rattle.refusals.specs.TwelveLaws.{word_settled}
use Rattle.views.specs.TrueCounts.{TrueCounts}
use Rattle.history.specs.LedLaws.{counts_by, counts_next, sample_steps}
use Rattle.history.specs.Onlooker.{accepts, asks_write, noted, outside, wclk_rises}
use Rattle.history.specs.Told.{Told}
use Rattle.history.specs.Trace.{Moment, accepts_word, at, moved_to, next, shown_by, takes}

-- the moment that pins lead to which are not refused
abbrev pub moved_on : Part → Moment → Pins → Moment
moved_on part m p =
    let a = advanced part p (fetched_for part m.state m.memory) m.state in
    at a.state (stored a.store m.memory) (noted m.notes p (shown_by part m.state) (shown_by part a.state))

-- at any moment, what becomes of the notes
module _ (part : Part) (m : Moment) (x : ℕ) where
  pub notes_taken : takes part m x ≡ true
      → (next part m x).notes ≡ noted m.notes (pins_of x) (shown_by part m.state) (shown_by part (next part m x).state)
  unfolding next takes
  notes_taken e = rw e refl

-- at a moment reached from power-up, the whole of it
module _ (part : Part) (m : Moment) (t : TrueCounts) (g : Told part m t) (x : ℕ) where
  abbrev after_by : Bool → After
  after_by free = cond free (taken part (pins_of x) m.state m.memory) (turned_away (record_refusal part x m.state) m.state m.memory)

  abbrev MovesOn : After → Type 0
  MovesOn a =
      is_taken a.sampled.outcome ≡ true
      → (moved_to part m x a ≡ moved_on part m (pins_of x)) × (counts_by part m x a t ≡ counts_after part (pins_of x) m.state t)

  moves_by : (free : Bool) → MovesOn (after_by free)
  unfolding taken
  moves_by true e = (refl, refl)
  moves_by false e = absurd (true≢false (sym e))

  pub taken_next_lem : takes part m x ≡ true
      → (next part m x ≡ moved_on part m (pins_of x)) × (counts_next part m x t ≡ counts_after part (pins_of x) m.state t)
  unfolding takes next counts_next stepped
  taken_next_lem = subst MovesOn (sym (sample_steps part m t g x)) (moves_by (eqb (record_refusal part x m.state) 0))

  stays_by : (free : Bool) → is_taken (after_by free).sampled.outcome ≡ false → moved_to part m x (after_by free) ≡ m
  unfolding taken
  stays_by true e = absurd (true≢false e)
  stays_by false e = refl

  -- a refused one is none: what it asked for, or a fall of RT in it, has not been
  pub refused_next : takes part m x ≡ false → next part m x ≡ m
  unfolding takes next stepped
  refused_next =
      subst (λ (a : After). is_taken a.sampled.outcome ≡ false → moved_to part m x a ≡ m) (sym (sample_steps part m t g x))
      (stays_by (eqb (record_refusal part x m.state) 0))

  free_by : (free : Bool) → is_taken (after_by free).sampled.outcome ≡ free
  unfolding taken
  free_by true = refl
  free_by false = refl

  -- it is taken where its record is not refused: 1 to 3 do not come
  pub takes_free : takes part m x ≡ eqb (record_refusal part x m.state) 0
  unfolding takes stepped
  takes_free = rw (sample_steps part m t g x) (free_by (eqb (record_refusal part x m.state) 0))

  -- paper 02, order 2: a word that is accepted was at rest
  pub accepted_settled : accepts_word part m x ≡ true → unsettled_in x ≡ false
  unfolding accepts_word accepts
  accepted_settled e =
      let p = pins_of x in
      let accepted = both (takes part m x) _ e in
      let asked = (both (asks_write m.notes p) _ accepted.1).0 in
      let enabled = both (wclk_rises m.notes p && p.ld) (not p.wen) asked in
      let risen = (both (wclk_rises m.notes p) p.ld enabled.0).0 in
      let rise = both (outside p) (not m.notes.wclk && p.wclk) risen in
      let levels = both (not m.notes.wclk) p.wclk rise.1 in
      word_settled part p m.state (sym (by_pins part x m.state) ∙ eqb-true _ _ (sym takes_free ∙ accepted.0)) (both p.mrs p.prs rise.0)
      (sym g.agrees.wclk ∙ not-true m.notes.wclk levels.0, levels.1) (not-true p.wen enabled.1)
