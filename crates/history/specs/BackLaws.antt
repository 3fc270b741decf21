-- What the write side has of the words delivered, by its rises since, and how FF and IR tell it.
use Rattle.std.specs.Prelude.{ℕ, zero, suc, ◌+◌, ◌-◌, ◌≤◌, ◌<◌, Bool, true, false, not, cond, ◌&&◌, ◌||◌, ◌≡◌, refl, length}
use Rattle.std.proofs.Math.Bool.{and-eq-true_iff}
use Rattle.std.proofs.Common.{true≢false, sym, ◌∙◌, length-append, ne_eqb, arith}
use mathlib.Core.List.{List, [], ◌∷◌, ◌++◌}
use Rattle.std.proofs.Math.Path.{subst}
use Rattle.counts.specs.declared.part.Part.{Part}
use Rattle.counts.specs.Part.{depth_of}
use Rattle.counts.specs.Sized.{part_sized}
use Rattle.pins.specs.declared.record.Pins.{Pins}
use Rattle.pins.specs.Record.{pins_of}
use Rattle.views.specs.TrueCounts.{TrueCounts, When}
use Rattle.history.specs.Crossing.{Crossing, accepted, crossed, crossed_led, crossed_next, crossed_on, crosses, delivered}
use Rattle.history.specs.CrossingLaws.{Crosses, crosses_led}
use Rattle.history.specs.FlagLaws.{full_judged}
use Rattle.history.specs.LedLaws.{counts_led, told_led}
use Rattle.history.specs.Onlooker.{Notes, Shown, delivers, full, noted, outside, rclk_rises, retransmits, wclk_rises, went_on}
use Rattle.history.specs.TimeLaws.{on_by}
use Rattle.history.specs.Told.{Told}
use Rattle.history.specs.Trace.{Moment, calm, led, next, shown_by, takes, undisturbed, wclk_rises_in, write_skew_met}

-- so many words were delivered before each of so many latest rises of WCLK: they are in the first stage from the first of these on where it met
-- the skew, and from the second in any case
record Known (met : Bool) (rises words now : ℕ) (c : Crossing) : Type 0 where
  there : words ≤ now
  before : 1 ≤ rises → When c.rclk_since (words ≤ c.delivered_before)
  first : cond met 1 2 ≤ rises → words ≤ c.write_first
  second : cond met 2 3 ≤ rises → words ≤ c.write_second

before_by : (own other since : Bool) (rises words now before : ℕ) → words ≤ now → (1 ≤ rises → When since (words ≤ before))
    → 1 ≤ rises + cond own 1 0 → When (other || not own && since) (words ≤ cond other now before)
before_by own true since rises words now before h k l = h
before_by true false since rises words now before h k l = tt
before_by false false since rises words now before h k l = k (omega arith)

taken_by : (met mark since : Bool) (rises words now before : ℕ) → (met ≡ true → rises ≡ 0 → mark ≡ true) → words ≤ now
    → (1 ≤ rises → When since (words ≤ before)) → cond met 1 2 ≤ rises + 1 → words ≤ crosses mark since before now
taken_by met mark false rises words now before e h k l = h
taken_by met true true rises words now before e h k l = h
taken_by true false true zero words now before e h k l = absurd (true≢false (sym (e refl refl)))
taken_by true false true (suc rises) words now before e h k l = k (omega arith)
taken_by false false true rises words now before e h k l = k (omega arith)

first_by : (met own mark since : Bool) (rises words now before first : ℕ) → (met ≡ true → rises ≡ 0 → not own || mark ≡ true) → words ≤ now
    → (1 ≤ rises → When since (words ≤ before)) → (cond met 1 2 ≤ rises → words ≤ first) → cond met 1 2 ≤ rises + cond own 1 0
    → words ≤ cond own (crosses mark since before now) first
first_by met true mark since rises words now before first e h k f l = taken_by met mark since rises words now before e h k l
first_by true false mark since rises words now before first e h k f l = f (omega arith)
first_by false false mark since rises words now before first e h k f l = f (omega arith)

second_by : (met own : Bool) (rises words first second : ℕ) → (cond met 1 2 ≤ rises → words ≤ first) → (cond met 2 3 ≤ rises → words ≤ second)
    → cond met 2 3 ≤ rises + cond own 1 0 → words ≤ cond own first second
second_by true true rises words first second f s l = f (omega arith)
second_by false true rises words first second f s l = f (omega arith)
second_by true false rises words first second f s l = s (omega arith)
second_by false false rises words first second f s l = s (omega arith)

pub crossed_on_lem : (b : Notes) (p : Pins) (c : Crossing) → outside p ≡ true → crossed b p c ≡ crossed_on b p c
unfolding crossed
crossed_on_lem b p c away = rw away refl

known_on : (met : Bool) (rises words now : ℕ) (b : Notes) (p : Pins) (c : Crossing) → (met ≡ true → rises ≡ 0 → not (wclk_rises b p) || p.skew.write ≡ true)
    → length b.delivered ≤ now → Known met rises words (length b.delivered) c → Known met (rises + cond (wclk_rises b p) 1 0) words now (crossed_on b p c)
unfolding crossed_on
known_on met rises words now b p c e l k =
    let own = wclk_rises b p in
    record {
      there = omega arith;
      before = before_by own (rclk_rises b p) c.rclk_since rises words (length b.delivered) c.delivered_before k.there k.before;
      first = first_by met own p.skew.write c.rclk_since rises words (length b.delivered) c.delivered_before c.write_first e k.there k.before k.first;
      second = second_by met own rises words c.write_first c.write_second k.first k.second;
    }

none_yet : (met : Bool) (one two : ℕ) → cond met (one + 1) (two + 1) ≤ 0 → ⊥
none_yet true one two l = omega arith
none_yet false one two l = omega arith

unknown : (met : Bool) (words : ℕ) (c : Crossing) → Known met 0 words words c
unknown met words c = record {
  there = omega arith;
  before = λ l. absurd (omega arith);
  first = λ l. absurd (none_yet met 0 1 l);
  second = λ l. absurd (none_yet met 1 2 l);
}

-- a sample that is refused, or outside reset and no retransmit
pub calm_by : (P : ℕ → Notes → Crossing → Type 0) (is away back rise : Bool) (rises : ℕ) (b on : Notes) (c then : Crossing) → not is || away && not back ≡ true
    → (is ≡ true → away ≡ true → back ≡ false → P (rises + cond rise 1 0) on then) → P rises b c
    → P (rises + cond (is && rise) 1 0) (cond is on b) (cond is then c)
calm_by P false away back rise rises b on c then e h k = subst (λ (many : ℕ). P many b c) (omega arith) k
calm_by P true true false rise rises b on c then e h k = h refl refl refl
calm_by P true true true rise rises b on c then e h k = absurd (true≢false (sym e))
calm_by P true false back rise rises b on c then e h k = absurd (true≢false (sym e))

-- the skew is met at the first rise, by whether this is it
marked : (rise mark rest : Bool) → cond rise mark rest ≡ true → not rise || mark ≡ true
marked true mark rest e = e
marked false mark rest e = refl

unmarked : (rise mark rest : Bool) (rises : ℕ) → (rises ≡ 0 → cond rise mark rest ≡ true) → rises + cond rise 1 0 ≡ 0 → rest ≡ true
unmarked true mark rest rises e none = absurd (omega arith)
unmarked false mark rest rises e none = e (omega arith)

grown_by : (back one : Bool) (l : List ℕ) (x : ℕ) → back ≡ false → length l ≤ length (cond back [] (cond one (l ++ (x ∷ [])) l))
grown_by true one l x e = absurd (true≢false e)
grown_by false true l x e = omega (arith, length-append l (x ∷ []))
grown_by false false l x e = omega arith

grown : (b : Notes) (p : Pins) (before after : Shown) → outside p ≡ true → retransmits b p ≡ false
    → length b.delivered ≤ length (noted b p before after).delivered
unfolding noted went_on
grown b p before after away still =
    rw (on_by p.mrs p.prs (went_on b p before after) _ _ away) (grown_by (retransmits b p) (delivers b p before after) b.delivered after.register still)

module _ (part : Part) where
  known_next : (m : Moment) (c : Crossing) (x : ℕ) (met : Bool) (rises words : ℕ)
      → calm part m x ≡ true → (met ≡ true → rises ≡ 0 → not (takes part m x && wclk_rises m.notes (pins_of x)) || (pins_of x).skew.write ≡ true)
      → Known met rises words (delivered m) c
      → Known met (rises + cond (takes part m x && wclk_rises m.notes (pins_of x)) 1 0) words (delivered (next part m x)) (crossed_next part m x c)
  unfolding next crossed_next takes
  known_next m c x met rises words still e k =
      let p = pins_of x in
      calm_by (λ many b d. Known met many words (length b.delivered) d) (takes part m x) (outside p) (retransmits m.notes p) (wclk_rises m.notes p)
      rises m.notes _ c _ still
      (λ is away on. rw (crossed_on_lem m.notes p c away)
      (known_on met rises words _ m.notes p c (λ q none. rw is at (e q none)) (grown m.notes p (shown_by part m.state) _ away on) k)) k

  known_led : (xs : List ℕ) (m : Moment) (c : Crossing) (met : Bool) (rises words : ℕ) → undisturbed part m xs ≡ true
      → (met ≡ true → rises ≡ 0 → write_skew_met part m xs ≡ true) → Known met rises words (delivered m) c
      → Known met (rises + wclk_rises_in part m xs) words (delivered (led part m xs)) (crossed_led part m xs c)
  unfolding undisturbed write_skew_met wclk_rises_in led crossed_led
  known_led [] m c met rises words still e k = subst (λ (many : ℕ). Known met many words (delivered m) c) (omega arith) k
  known_led (x ∷ xs) m c met rises words still e k =
      let p = pins_of x in
      let rise = takes part m x && wclk_rises m.notes p in
      let both = (and-eq-true_iff (calm part m x) (undisturbed part (next part m x) xs)).0 still in
      subst (λ (many : ℕ). Known met many words (delivered (led part (next part m x) xs)) (crossed_led part (next part m x) xs (crossed_next part m x c))) (omega arith)
      (known_led xs (next part m x) (crossed_next part m x c) met _ words both.1
      (λ q none. unmarked rise p.skew.write (write_skew_met part (next part m x) xs) rises (e q) none)
      (known_next m c x met rises words both.0 (λ q none. marked rise p.skew.write (write_skew_met part (next part m x) xs) (e q none)) k))

  -- words delivered at a moment are known from the second rise of WCLK after it on, from the third where the first missed the skew
  known_then : (m : Moment) (c : Crossing) (later : List ℕ) → undisturbed part m later ≡ true
      → cond (write_skew_met part m later) 2 3 ≤ wclk_rises_in part m later → delivered m ≤ (crossed_led part m later c).write_second
  known_then m c later still due =
      let met = write_skew_met part m later in
      (known_led later m c met 0 (delivered m) still (λ e none. e) (unknown met (delivered m) c)).second (omega arith)

  -- room for as many words again as were delivered then
  module _ (m : Moment) (t : TrueCounts) (g : Told part m t) (c : Crossing) (k : Crosses m.state t c) where
    pub back_shown : (later : List ℕ) → undisturbed part m later ≡ true → cond (write_skew_met part m later) 2 3 ≤ wclk_rises_in part m later
        → let after = led part m later in
        accepted after < delivered m + depth_of part → full after.notes.fwft (shown_by part after.state) ≡ false
    back_shown later still due room =
        let after = led part m later in
        let then = crossed_led part m later c in
        full_judged part after (counts_led part m later t) (told_led part later m t g) then (crosses_led part later m t g c k)
        ∙ ne_eqb (accepted after - then.write_second) (depth_of part) (λ same. omega (arith, known_then m c later still due, (part_sized part).some))
