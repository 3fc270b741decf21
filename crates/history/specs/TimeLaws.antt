-- How many rises of RCLK a word has been there for, and that the flag answers in time.
use Rattle.std.specs.Prelude.{ℕ, ◌+◌, ◌≤◌, ◌<◌, Bool, true, false, not, cond, ◌&&◌, ◌||◌, ◌≡◌, refl, length}
use Rattle.std.proofs.Math.Bool.{and-eq-true_iff}
use Rattle.std.proofs.Common.{true≢false, ◌∙◌, arith}
use mathlib.Core.List.{List, [], ◌∷◌}
use Rattle.std.proofs.Math.Path.{sym}
use Rattle.refusals.specs.ReachLaws.{counts_after}
use Rattle.chip.specs.ResetLaws.{is_fwft}
use Rattle.counts.specs.declared.part.Part.{Part}
use Rattle.counts.specs.Part.{depth_of}
use Rattle.counts.specs.Sized.{part_sized}
use Rattle.pins.specs.declared.record.Pins.{Pins}
use Rattle.pins.specs.Record.{pins_of}
use Rattle.sides.specs.declared.read.Mode.{Mode}
use Rattle.sides.specs.declared.read.Mode.TheVariants.{Standard, Fwft}
use Rattle.sides.specs.Clocks as clocks
use Rattle.sides.specs.CountLaws.{grows}
use Rattle.sides.specs.DecisionLaws.{due_by, ready_due}
use Rattle.sides.specs.Tracks.{true_after}
use Rattle.sides.specs.Write as write
use Rattle.views.specs.TrueCounts.{TrueCounts, after_read, after_write, no_counts}
use Rattle.history.specs.EventLaws.{accepts_told, ready_told, retransmits_told, rises_told}
use Rattle.history.specs.LedLaws.{counts_led, counts_next, told_led, told_next}
use Rattle.history.specs.Onlooker.{Notes, Shown, accepts, outside, rclk_rises, ready, retransmits}
use Rattle.history.specs.Told.{Told}
use Rattle.history.specs.Trace.{Moment, accepts_word, calm, led, next, rclk_rises_in, shown_by, takes, undisturbed}

-- a word's number is below the words accepted before each of so many latest rises of RCLK
record Aged (rises number : ℕ) (t : TrueCounts) : Type 0 where
  there : number < t.written
  one : 1 ≤ rises → number < t.one_ago
  two : 2 ≤ rises → number < t.two_ago
  three : 3 ≤ rises → number < t.three_ago
  four : 4 ≤ rises → number < t.four_ago

same_age : (many again number : ℕ) (t : TrueCounts) → many ≡ again → Aged many number t → Aged again number t
same_age many again number t e g = record {
  there = g.there;
  one = λ l. g.one (omega arith);
  two = λ l. g.two (omega arith);
  three = λ l. g.three (omega arith);
  four = λ l. g.four (omega arith);
}

aged_on : (own accepted other : Bool) (age number following first second : ℕ) (t : TrueCounts) → Aged age number t
    → Aged (age + cond own 1 0) number (after_read own false following first t.written (after_write other accepted second t))
aged_on true accepted other age number following first second t g =
    let more = grows accepted t.written in
    record {
      there = omega arith;
      one = λ l. g.there;
      two = λ l. g.one (omega arith);
      three = λ l. g.two (omega arith);
      four = λ l. g.three (omega arith);
    }
aged_on false accepted other age number following first second t g =
    let more = grows accepted t.written in
    record {
      there = omega arith;
      one = λ l. g.one (omega arith);
      two = λ l. g.two (omega arith);
      three = λ l. g.three (omega arith);
      four = λ l. g.four (omega arith);
    }

-- outside reset
pub on_by : {A : Type 0} (mrs prs : Bool) (on kept fresh : A) → mrs && prs ≡ true → cond mrs (cond prs on kept) fresh ≡ on
on_by true true on kept fresh e = refl
on_by true false on kept fresh e = absurd (true≢false (sym e))
on_by false prs on kept fresh e = absurd (true≢false (sym e))

module _ (part : Part) (m : Moment) (t : TrueCounts) (g : Told part m t) (p : Pins) (away : outside p ≡ true) where
  counts_on : counts_after part p m.state t ≡ true_after (depth_of part) p m.state.write m.state.read t
  unfolding counts_after
  counts_on = on_by p.mrs p.prs _ no_counts no_counts away

  aged_after : (age number : ℕ) → retransmits m.notes p ≡ false → Aged age number t
      → Aged (age + cond (rclk_rises m.notes p) 1 0) number (counts_after part p m.state t)
  unfolding true_after
  aged_after age number still h =
      let back = sym (retransmits_told part m t g.agrees p away) ∙ still in
      rw (counts_on, back, rises_told part m t g.agrees p away)
      (aged_on (clocks.read_rises p m.state.read) (write.accepts (depth_of part) p m.state.write) (clocks.write_rises p m.state.write)
      age number _ _ _ t h)

  counted_more : accepts m.notes p (shown_by part m.state) ≡ true → length m.notes.accepted < (counts_after part p m.state t).written
  unfolding true_after
  counted_more e =
      let one = sym (accepts_told part m t g.agrees p away) ∙ e in
      rw (counts_on, one) (omega arith)

first_of : (a b : Bool) → a && b ≡ true → a ≡ true
first_of a b e = ((and-eq-true_iff a b).0 e).0

-- no word is accepted in a reset
accepted_outside : (b : Notes) (p : Pins) (before : Shown) → accepts b p before ≡ true → outside p ≡ true
unfolding accepts
accepted_outside b p before e = first_of _ _ (first_of _ _ (first_of _ _ (first_of _ _ e)))

-- a sample that is refused, or outside reset and no retransmit
aged_by : (taken away back rise : Bool) (age number : ℕ) (t u : TrueCounts) → not taken || away && not back ≡ true
    → (away ≡ true → back ≡ false → Aged (age + cond rise 1 0) number u) → Aged age number t → Aged (age + cond (taken && rise) 1 0) number (cond taken u t)
aged_by false away back rise age number t u e h g = same_age age (age + 0) number t (omega arith) g
aged_by true true false rise age number t u e h g = h refl refl
aged_by true true true rise age number t u e h g = absurd (true≢false (sym e))
aged_by true false back rise age number t u e h g = absurd (true≢false (sym e))

module _ (part : Part) where
  aged_next : (m : Moment) (t : TrueCounts) (x age number : ℕ) → Told part m t → calm part m x ≡ true → Aged age number t
      → Aged (age + cond (takes part m x && rclk_rises m.notes (pins_of x)) 1 0) number (counts_next part m x t)
  unfolding counts_next takes
  aged_next m t x age number g e h =
      aged_by (takes part m x) (outside (pins_of x)) (retransmits m.notes (pins_of x)) (rclk_rises m.notes (pins_of x)) age number t
      (counts_after part (pins_of x) m.state t) e (λ away still. aged_after part m t g (pins_of x) away age number still h) h

  aged_led : (xs : List ℕ) (m : Moment) (t : TrueCounts) (age number : ℕ) → Told part m t → undisturbed part m xs ≡ true → Aged age number t
      → Aged (age + rclk_rises_in part m xs) number (counts_led part m xs t)
  unfolding undisturbed rclk_rises_in counts_led
  aged_led [] m t age number g e h = same_age age (age + 0) number t (omega arith) h
  aged_led (x ∷ xs) m t age number g e h =
      let both = (and-eq-true_iff (calm part m x) (undisturbed part (next part m x) xs)).0 e in
      same_age _ _ number _ (omega arith)
      (aged_led xs (next part m x) (counts_next part m x t) _ number (told_next part m t g x) both.1 (aged_next m t x age number g both.0 h))

  -- the word of a sample that is taken and accepts one
  aged_new : (m : Moment) (t : TrueCounts) (x : ℕ) → Told part m t → accepts_word part m x ≡ true → Aged 0 (length m.notes.accepted) (counts_next part m x t)
  unfolding accepts_word counts_next takes
  aged_new m t x g e =
      let both = (and-eq-true_iff (takes part m x) (accepts m.notes (pins_of x) (shown_by part m.state))).0 e in
      rw both.0 (record {
        there = counted_more part m t g (pins_of x) (accepted_outside m.notes (pins_of x) (shown_by part m.state) both.1) both.1;
        one = λ l. absurd (omega arith);
        two = λ l. absurd (omega arith);
        three = λ l. absurd (omega arith);
        four = λ l. absurd (omega arith);
      })

-- from which rise of RCLK on the flag answers for a word: the third in Standard, the fourth in FWFT
abbrev pub due_rise : Bool → ℕ
due_rise fwft = cond fwft 4 3

old_enough : (mode : Mode) (age number : ℕ) (t : TrueCounts) → Aged age number t → cond (is_fwft mode) 4 3 ≤ age → number < due_by mode t
old_enough Standard age number t g l = g.three (omega arith)
old_enough (Fwft untaken) age number t g l = g.four (omega arith)

shows_ready : (part : Part) (m : Moment) (t : TrueCounts) (age number : ℕ) → Told part m t → Aged age number t → cond m.notes.fwft 4 3 ≤ age
    → length m.notes.delivered ≤ number → ready m.notes.fwft (shown_by part m.state) ≡ true
shows_ready part m t age number g h l undelivered =
    let due = old_enough m.state.read.mode age number t h (rw g.agrees.fwft at l) in
    ready_told part m t g.agrees
    ∙ ready_due (depth_of part) (part_sized part) m.state.write m.state.read t g.reached.tracks (omega arith)

-- `due_shown` with the rises spelled out, so that it stands whatever `due_rise` is
pub aged_shown : (part : Part) (m : Moment) (t : TrueCounts) (x : ℕ) (later : List ℕ) → Told part m t → accepts_word part m x ≡ true
    → let after = led part (next part m x) later in
    undisturbed part (next part m x) later ≡ true → cond after.notes.fwft 4 3 ≤ rclk_rises_in part (next part m x) later
    → length after.notes.delivered ≤ length m.notes.accepted → ready after.notes.fwft (shown_by part after.state) ≡ true
aged_shown part m t x later g a calm due undelivered =
    let told = told_next part m t g x in
    shows_ready part (led part (next part m x) later) (counts_led part (next part m x) later (counts_next part m x t)) (0 + rclk_rises_in part (next part m x) later)
    (length m.notes.accepted) (told_led part later (next part m x) (counts_next part m x t) told)
    (aged_led part later (next part m x) (counts_next part m x t) 0 (length m.notes.accepted) told calm (aged_new part m t x g a)) (omega arith) undelivered

pub due_shown : (part : Part) (m : Moment) (t : TrueCounts) (x : ℕ) (later : List ℕ) → Told part m t → accepts_word part m x ≡ true
    → let after = led part (next part m x) later in
    undisturbed part (next part m x) later ≡ true → due_rise after.notes.fwft ≤ rclk_rises_in part (next part m x) later
    → length after.notes.delivered ≤ length m.notes.accepted → ready after.notes.fwft (shown_by part after.state) ≡ true
due_shown part m t x later g a calm due undelivered = aged_shown part m t x later g a calm due undelivered
