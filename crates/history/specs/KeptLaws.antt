-- What the notes and the model tell of each other at one moment.
use Rattle.std.specs.Prelude.{ℕ, ◌-◌, ◌≤◌, ◌<◌, Bool, false, ◌≡◌, drop, length, take}
use Rattle.std.proofs.Math.Bool.{true}
use Rattle.std.proofs.Common.{true≢false, sym, ap, ◌∙◌, arith}
use Rattle.std.proofs.Math.Path.{refl}
use Rattle.refusals.specs.ReachLaws.{words_held_lem}
use Rattle.chip.specs.ResetLaws.{is_fwft}
use Rattle.chip.specs.State.{words_held}
use Rattle.counts.specs.declared.part.Part.{Part}
use Rattle.counts.specs.Part.{depth_of}
use Rattle.counts.specs.Round.{place_of}
use Rattle.counts.specs.Sized.{part_sized}
use Rattle.sides.specs.declared.read.Mode.{Mode}
use Rattle.sides.specs.declared.read.Mode.TheVariants.{Standard, Fwft}
use Rattle.sides.specs.Read as read
use Rattle.sides.specs.Read.{ready_by}
use Rattle.views.specs.TrueCounts.{TrueCounts}
use Rattle.history.specs.EventLaws.{ready_told}
use Rattle.history.specs.Onlooker.{last_of, ready}
use Rattle.history.specs.Told.{Came, Told}
use Rattle.history.specs.Trace.{Moment, shown_by, words_from}
use Rattle.history.specs.WordLaws.{remainder_held}

came_ready : (mode : Mode) (seen : Bool) (n : ℕ) → is_fwft mode ≡ true → ready_by mode seen ≡ true → Came mode n → 0 < n
came_ready Standard seen n e r h = absurd (true≢false (sym e))
came_ready (Fwft true) seen n e r h = h
came_ready (Fwft false) seen n e r h = absurd (true≢false (sym r))

module _ (part : Part) (m : Moment) (t : TrueCounts) (g : Told part m t) where
  pub first_delivered : m.notes.delivered ≡ take (length m.notes.delivered) m.notes.accepted
  first_delivered = g.agrees.same ∙ ap (λ (many : ℕ). take many m.notes.accepted) (sym g.agrees.read)

  pub depth_at_most : words_held m.state ≤ depth_of part
  depth_at_most = rw (words_held_lem part m.state t g.reached) (omega arith)

  pub read_place : place_of (depth_of part) m.state.read.count.0 ≡ place_of (depth_of part) t.read
  read_place = rw g.reached.tracks.read ((part_sized part).round t.read)

  pub remainder_in_memory : drop (length m.notes.delivered) m.notes.accepted
      ≡ words_from (depth_of part) m.memory m.state.read.count.0 (words_held m.state)
  remainder_in_memory =
      rw (words_held_lem part m.state t g.reached, g.agrees.read)
      (sym (remainder_held (depth_of part) m.memory m.notes.accepted m.state.read.count.0 t.read (t.written - t.read)
      g.agrees.holds read_place (omega arith) (omega arith)))

  pub register_last : 0 < length m.notes.delivered → (shown_by part m.state).register ≡ last_of m.notes.delivered
  unfolding shown_by
  register_last = g.agrees.newest

  pub delivered_ready : m.notes.fwft ≡ true → (shown_by part m.state).ef ≡ false → 0 < length m.notes.delivered
  unfolding read.ready
  delivered_ready e low =
      let shows : ready m.notes.fwft (shown_by part m.state) ≡ true = rw (e, low) refl in
      rw g.agrees.read
      (came_ready m.state.read.mode (read.sees_word m.state.read) t.read (sym g.agrees.fwft ∙ e) (sym (ready_told part m t g.agrees) ∙ shows)
      g.agrees.came)
