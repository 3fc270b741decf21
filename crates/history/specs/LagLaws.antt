-- Where memory holds as many words as it is deep, what is read is not known to the write side before its second rise.
use Rattle.std.specs.Prelude.{ℕ, ◌+◌, ◌-◌, ◌≤◌, Bool, true, cond, ◌&&◌, ◌≡◌, length}
use Rattle.std.proofs.Math.Bool.{false, and-eq-true_iff, and-false}
use mathlib.Core.List.{List, [], ◌∷◌}
use Rattle.std.proofs.Math.Path.{refl, subst}
use Rattle.std.proofs.Common.{◌∙◌, eq-eqb, arith}
use Rattle.counts.specs.declared.part.Part.{Part}
use Rattle.counts.specs.Either.{either}
use Rattle.counts.specs.Part.{depth_of}
use Rattle.pins.specs.declared.record.Pins.{Pins}
use Rattle.pins.specs.Record.{pins_of}
use Rattle.views.specs.declared.retransmit.View.{View}
use Rattle.views.specs.declared.retransmit.View.TheVariants.{Unseen, Taken, Seen}
use Rattle.views.specs.TrueCounts.{Ordered, TrueCounts, When}
use Rattle.history.specs.BackLaws.{calm_by, crossed_on_lem}
use Rattle.history.specs.Crossing.{Crossing, accepted, crossed_led, crossed_next, crossed_on, crosses, delivered}
use Rattle.history.specs.CrossingLaws.{Crosses, crosses_led, crosses_next}
use Rattle.history.specs.FlagLaws.{full_judged}
use Rattle.history.specs.LedLaws.{counts_led, counts_next, told_led, told_next}
use Rattle.history.specs.Onlooker.{Notes, Shown, accepts, full, noted, outside, retransmits, wclk_rises, went_on}
use Rattle.history.specs.TimeLaws.{on_by}
use Rattle.history.specs.Told.{Told}
use Rattle.history.specs.Trace.{Moment, calm, led, next, shown_by, takes, undisturbed, wclk_rises_in}

-- a moment at which memory holds as many words as it is deep: both stages have all that were delivered
settled_by : (depth : ℕ) (view : View) (begun wclk since : Bool) (t : TrueCounts) → Ordered depth view begun wclk since t → t.written ≡ t.read + depth
    → (t.write_first ≡ t.read) × (t.write_second ≡ t.read) × When since (t.read_before ≡ t.read)
settled_by depth Seen begun wclk true t o e = omega arith
settled_by depth Seen begun wclk false t o e = omega arith
settled_by depth Taken begun wclk since t o e = absurd (omega arith)
settled_by depth Unseen true wclk since t o e = absurd (omega arith)
settled_by depth Unseen false wclk since t o e = absurd (omega arith)

-- such a moment with so many words delivered, and a rise of WCLK since at most: the second stage still has these, and memory is as full as it was
record Lagging (depth rises words now : ℕ) (c : Crossing) : Type 0 where
  first : rises ≤ 0 → c.write_first ≡ words
  second : rises ≤ 1 → c.write_second ≡ words
  filled : rises ≤ 1 → now ≡ words + depth

taken_all : (own mark since : Bool) (words now before first : ℕ) → now ≡ words → When since (before ≡ words) → first ≡ words
    → cond own (crosses mark since before now) first ≡ words
taken_all false mark since words now before first e h f = f
taken_all true mark false words now before first e h f = e
taken_all true true true words now before first e h f = e
taken_all true false true words now before first e h f = h

first_lags : (own : Bool) (rises words taken first : ℕ) → (rises ≤ 0 → first ≡ words) → rises + cond own 1 0 ≤ 0 → cond own taken first ≡ words
first_lags true rises words taken first f l = absurd (omega arith)
first_lags false rises words taken first f l = f (omega arith)

second_lags : (own : Bool) (rises words first second : ℕ) → (rises ≤ 0 → first ≡ words) → (rises ≤ 1 → second ≡ words) → rises + cond own 1 0 ≤ 1
    → cond own first second ≡ words
second_lags true rises words first second f s l = f (omega arith)
second_lags false rises words first second f s l = s (omega arith)

-- shown full, no word is accepted
none_accepted : (b : Notes) (p : Pins) (before after : Shown) → full b.fwft before ≡ true → outside p ≡ true
    → length (noted b p before after).accepted ≡ length b.accepted
unfolding noted went_on accepts
none_accepted b p before after e away = rw (on_by p.mrs p.prs (went_on b p before after) _ _ away) (simp (e, and-false))

lags_on : (depth rises words now : ℕ) (b : Notes) (p : Pins) (c : Crossing) → Lagging depth rises words (length b.accepted) c
    → (rises ≤ 1 → now ≡ length b.accepted) → Lagging depth (rises + cond (wclk_rises b p) 1 0) words now (crossed_on b p c)
unfolding crossed_on
lags_on depth rises words now b p c l same = record {
  first = first_lags (wclk_rises b p) rises words _ c.write_first l.first;
  second = second_lags (wclk_rises b p) rises words c.write_first c.write_second l.first l.second;
  filled = λ few. same (omega arith) ∙ l.filled (omega arith);
}

module _ (part : Part) (m : Moment) (t : TrueCounts) (g : Told part m t) (c : Crossing) (k : Crosses m.state t c) where
  lags_full : (rises words : ℕ) → Lagging (depth_of part) rises words (accepted m) c → rises ≤ 1 → full m.notes.fwft (shown_by part m.state) ≡ true
  lags_full rises words l few =
      full_judged part m t g c k ∙ eq-eqb (accepted m - c.write_second) (depth_of part) (omega (arith, l.second few, l.filled few))

  lags_next : (x rises words : ℕ) → calm part m x ≡ true → Lagging (depth_of part) rises words (accepted m) c
      → Lagging (depth_of part) (rises + cond (takes part m x && wclk_rises m.notes (pins_of x)) 1 0) words (accepted (next part m x)) (crossed_next part m x c)
  unfolding next crossed_next takes
  lags_next x rises words still l =
      let p = pins_of x in
      calm_by (λ many b d. Lagging (depth_of part) many words (length b.accepted) d) (takes part m x) (outside p) (retransmits m.notes p)
      (wclk_rises m.notes p) rises m.notes _ c _ still
      (λ is away on. rw (crossed_on_lem m.notes p c away)
      (lags_on (depth_of part) rises words _ m.notes p c l
      (λ few. none_accepted m.notes p (shown_by part m.state) _ (lags_full rises words l few) away))) l

  module _ (brim : accepted m ≡ delivered m + depth_of part) where
    settled : (c.write_first ≡ delivered m) × (c.write_second ≡ delivered m) × When c.rclk_since (c.delivered_before ≡ delivered m)
    settled =
        rw (k.write_first, k.write_second, k.rclk_since, k.delivered_before, g.agrees.read)
        (settled_by (depth_of part) m.state.write.view _ _ _ t g.reached.tracks.ordered (omega arith))

    lags_now : Lagging (depth_of part) 0 (delivered m) (accepted m) c
    lags_now = record { first = λ l. settled.0; second = λ l. settled.1; filled = λ l. brim }

    lags_risen : (p : Pins) (now : ℕ) → now ≡ accepted m → Lagging (depth_of part) 0 (delivered m) now (crossed_on m.notes p c)
    unfolding crossed_on
    lags_risen p now same =
        let own = wclk_rises m.notes p in
        record {
          first = λ l. taken_all own p.skew.write c.rclk_since (delivered m) (delivered m) c.delivered_before c.write_first refl settled.2 settled.0;
          second = λ l. either (λ n. n ≡ delivered m) own c.write_first c.write_second settled.0 settled.1;
          filled = λ l. same ∙ brim;
        }

    -- whatever a sample reads, a rise of WCLK in it has none of it yet
    lags_first : (x : ℕ) → calm part m x ≡ true → Lagging (depth_of part) 0 (delivered m) (accepted (next part m x)) (crossed_next part m x c)
    unfolding next crossed_next takes
    lags_first x still =
        let p = pins_of x in
        calm_by (λ many b d. Lagging (depth_of part) 0 (delivered m) (length b.accepted) d) (takes part m x) (outside p) (retransmits m.notes p) false
        0 m.notes _ c _ still
        (λ is away on. rw (crossed_on_lem m.notes p c away)
        (lags_risen p _ (none_accepted m.notes p (shown_by part m.state) _ (lags_full 0 (delivered m) lags_now (omega arith)) away))) lags_now

module _ (part : Part) where
  lags_led : (xs : List ℕ) (m : Moment) (t : TrueCounts) → Told part m t → (c : Crossing) → Crosses m.state t c → (rises words : ℕ)
      → undisturbed part m xs ≡ true → Lagging (depth_of part) rises words (accepted m) c
      → Lagging (depth_of part) (rises + wclk_rises_in part m xs) words (accepted (led part m xs)) (crossed_led part m xs c)
  unfolding undisturbed wclk_rises_in led crossed_led
  lags_led [] m t g c k rises words still l = subst (λ (many : ℕ). Lagging (depth_of part) many words (accepted m) c) (omega arith) l
  lags_led (x ∷ xs) m t g c k rises words still l =
      let both = (and-eq-true_iff (calm part m x) (undisturbed part (next part m x) xs)).0 still in
      subst (λ (many : ℕ). Lagging (depth_of part) many words (accepted (led part (next part m x) xs)) (crossed_led part (next part m x) xs (crossed_next part m x c))) (omega arith)
      (lags_led xs (next part m x) (counts_next part m x t) (told_next part m t g x) (crossed_next part m x c) (crosses_next part m t g c k x) _ words both.1
      (lags_next part m t g c k x rises words both.0 l))

  module _ (m : Moment) (t : TrueCounts) (g : Told part m t) (c : Crossing) (k : Crosses m.state t c) where
    pub still_full : (x : ℕ) (later : List ℕ) → accepted m ≡ delivered m + depth_of part → undisturbed part m (x ∷ later) ≡ true
        → wclk_rises_in part (next part m x) later ≤ 1
        → let after = led part (next part m x) later in full after.notes.fwft (shown_by part after.state) ≡ true
    unfolding undisturbed
    still_full x later brim still few =
        let n = next part m x in
        let told = told_next part m t g x in
        let crosses-then = crosses_next part m t g c k x in
        let both = (and-eq-true_iff (calm part m x) (undisturbed part n later)).0 still in
        lags_full part (led part n later) (counts_led part n later (counts_next part m x t)) (told_led part later n _ told)
        (crossed_led part n later (crossed_next part m x c)) (crosses_led part later n _ told _ crosses-then) _ (delivered m)
        (lags_led later n _ told (crossed_next part m x c) crosses-then 0 (delivered m) both.1 (lags_first part m t g c k brim x both.0)) (omega arith)
