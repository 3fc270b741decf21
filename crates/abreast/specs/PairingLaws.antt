-- Each half of a pair is a part: what the pair's own sample leads to is what the single part's sample leads to, where the pair takes it.
use Rattle.std.specs.Prelude.{ℕ, Bool, cond, ◌&&◌, ◌≢◌, ◌≡◌, length, eqb}
use Rattle.std.proofs.Math.Bool.{true, false, true≢false}
use mathlib.Core.List.{List, [], ◌∷◌}
use Rattle.std.proofs.Math.Path.{refl, ap, subst}
use Rattle.std.proofs.Common.{sym, ◌∙◌, arith}
use borrow.Author.Tests.{eq-eqb}
use Rattle.counts.specs.declared.part.Part.{Part}
use Rattle.counts.specs.Part.{depth_of}
use Rattle.counts.specs.PartLaws.{own_number}
use Rattle.fifo.specs.Outcome as fifo
use Rattle.fifo.specs.Sample as single
use Rattle.fifo.specs.Sample.{is_depth, record_refusal}
use Rattle.pair.specs.Outcome.{Outcome, Refused, Taken}
use Rattle.halves.specs.declared.state.Halves.{Halves}
use Rattle.joint.specs.Refuse.{same_pins}
use Rattle.halves.specs.Refuse.{pair_refusal}
use Rattle.pair.specs.Sample.{After, both, is_taken, number_of, pair_stepped}
use Rattle.pair.specs.SampleLaws.{free_both, sample_is_step, step_numbered, taken_both_lem}
use Rattle.halves.specs.State.{passes_both}
use Rattle.halves.specs.StateLaws.{both_pass}
use Rattle.halves.specs.Two.{Two, two}
use Rattle.pins.specs.Record.{pins_of}
use Rattle.refusals.specs.ReachLaws.{reached_passes}
use Rattle.views.specs.TrueCounts.{TrueCounts, no_counts}
use Rattle.history.specs.LedLaws.{counts_led, counts_next, not_three, sample_steps, told_after, told_next}
use Rattle.history.specs.Onlooker.{Notes, noted, went_on}
use Rattle.history.specs.TakenLaws.{notes_taken}
use Rattle.history.specs.Told.{Told}
use Rattle.history.specs.Trace.{Moment, at, led, next, outcome, power_up, shown_by, takes}
use Rattle.abreast.specs.Abreast.{Records}
use Rattle.abreast.specs.Pairing.{Pairing, answers_after, halves_of, lefts, memories_of, moved_both, pair_led, pair_next, pair_outcome, pair_takes, powered_both, rights, taken_of}
use Rattle.joint.specs.RefuseLaws.{same_pins_lem}

-- wherever a sample leads, the right onlooker goes by the right part's record
abbrev pub Noting : Part → Type 0
Noting part =
    (b : Pairing) (x : Records) (a : After) → (moved_both part b x a).right
    ≡ at a.sampled.state.right a.memory.right
    (cond (is_taken a.sampled.outcome)
    (noted b.right.notes (pins_of x.right) (shown_by part b.right.state) (shown_by part a.sampled.state.right)) b.right.notes)

-- it always does: `noting` asks nothing of a pair that the other fields do not
pub always_noting : (part : Part) → Noting part
always_noting part b x a = refl

-- what holds of a pair at every moment from power-up on: each half's notes agree with it, and both are in one mode
pub record Paired (part : Part) (b : Pairing) : Type 0 where
  pub noting : Noting part
  pub left_counts : TrueCounts
  pub right_counts : TrueCounts
  pub left : Told part b.left left_counts
  pub right : Told part b.right right_counts
  pub mode : b.left.notes.fwft ≡ b.right.notes.fwft

not_three_by : (same none : Bool) (left right : ℕ) → left ≢ 3 → right ≢ 3 → cond same (cond none right left) 11 ≢ 3
not_three_by true true left right l r e = r e
not_three_by true false left right l r e = l e
not_three_by false none left right l r e = omega arith

pub step_not_three : (part : Part) (x : Records) (h : Halves) (memory : Two (List ℕ)) → number_of (pair_stepped part x h memory).sampled.outcome ≢ 3
unfolding pair_refusal
step_not_three part x h memory e =
    let left = record_refusal part x.left h.left in
    let right = record_refusal part x.right h.right in
    not_three_by (same_pins x.left x.right) (eqb left 0) left right (not_three part x.left h.left) (not_three part x.right h.right)
    (sym (step_numbered part x h memory).told ∙ e)

taken_by : (o : Outcome) → is_taken o ≡ true → o ≡ Taken (answers_after o (two 0 0)).left (answers_after o (two 0 0)).right
taken_by (Taken left right) e = refl
taken_by (Refused number) e = absurd (true≢false (sym e))

mode_by : (mrs prs : Bool) (on over anew : Notes) (fwft : Bool) → on.fwft ≡ fwft → over.fwft ≡ fwft → (cond mrs (cond prs on over) anew).fwft ≡ cond mrs fwft anew.fwft
mode_by true true on over anew fwft e f = e
mode_by true false on over anew fwft e f = f
mode_by false prs on over anew fwft e f = refl

module _ (part : Part) (m : Moment) (x : ℕ) where
  pub taken_single : {answer : ℕ} → (outcome part m x).sampled.outcome ≡ fifo.Taken answer → takes part m x ≡ true
  unfolding takes
  taken_single e = rw e refl

  -- the mode that an onlooker notes after a sample that is taken
  mode_next_lem : takes part m x ≡ true → (next part m x).notes.fwft ≡ cond (pins_of x).mrs m.notes.fwft (pins_of x).fwft
  unfolding noted went_on
  mode_next_lem e = ap (λ (n : Notes). n.fwft) (notes_taken part m x e) ∙ mode_by (pins_of x).mrs (pins_of x).prs _ _ _ m.notes.fwft refl refl

module _ (part : Part) (b : Pairing) (g : Paired part b) where
  pub passes_test_lem : passes_both part (halves_of b) ≡ true
  passes_test_lem =
      both_pass part (halves_of b) (record {
        left = reached_passes part b.left.state g.left_counts g.left.reached;
        right = reached_passes part b.right.state g.right_counts g.right.reached;
        mode = sym g.left.agrees.fwft ∙ g.mode ∙ g.right.agrees.fwft;
      })

  sized : is_depth part (length b.left.memory) && is_depth part (length b.right.memory) ≡ true
  sized = simp (eq-eqb _ _ g.left.agrees.whole, eq-eqb _ _ g.right.agrees.whole)

  module _ (x : Records) where
    pub pair_steps : pair_outcome part b x ≡ pair_stepped part x (halves_of b) (memories_of b)
    unfolding pair_outcome
    pair_steps = sample_is_step _ x (halves_of b) (memories_of b) part (own_number part) sized passes_test_lem

    pub pair_not_three : number_of (pair_outcome part b x).sampled.outcome ≢ 3
    pair_not_three = rw pair_steps (step_not_three part x (halves_of b) (memories_of b))

    -- taken, with these answers: both parts take their own records, with these answers, and so does each by itself
    pub record TakenEach (left right : ℕ) : Type 0 where
      pub same : same_pins x.left x.right ≡ true
      pub left_outcome : (outcome part b.left x.left).sampled.outcome ≡ fifo.Taken left
      pub right_outcome : (outcome part b.right x.right).sampled.outcome ≡ fifo.Taken right
      pub left_next : (pair_next part b x).left ≡ next part b.left x.left
      pub right_next : (pair_next part b x).right ≡ next part b.right x.right
      pub answered : (pair_next part b x).answers ≡ two left right

    module _ {left right : ℕ} (e : (pair_outcome part b x).sampled.outcome ≡ Taken left right) where
      pub taken_each : TakenEach left right
      unfolding pair_next next
      taken_each =
          let each = taken_both_lem part x (halves_of b) (memories_of b) left right (ap (λ (a : After). a.sampled.outcome) (sym pair_steps) ∙ e) in
          let l = sample_steps part b.left g.left_counts g.left x.left in
          let r = sample_steps part b.right g.right_counts g.right x.right in
          let whole : pair_outcome part b x ≡ both (outcome part b.left x.left) (outcome part b.right x.right) =
          pair_steps ∙ each.1 ∙ (λ i. both (sym l i) (sym r i)) in
          let left-given : (outcome part b.left x.left).sampled.outcome ≡ fifo.Taken left = ap (λ (a : single.After). a.sampled.outcome) l ∙ each.2 in
          let right-given : (outcome part b.right x.right).sampled.outcome ≡ fifo.Taken right = ap (λ (a : single.After). a.sampled.outcome) r ∙ each.3 in
          record {
            same = (free_both part x (halves_of b) each.0).2;
            left_outcome = left-given;
            right_outcome = right-given;
            left_next = rw (whole, left-given) refl;
            right_next = g.noting b x (pair_outcome part b x) ∙ rw (whole, right-given) refl;
            answered = rw e refl;
          }

    -- refused: nothing is moved
    pub refused_neither : pair_takes part b x ≡ false → pair_next part b x ≡ b
    unfolding pair_next pair_takes
    refused_neither e =
        let n = step_numbered part x (halves_of b) (memories_of b) in
        let refused = ap (λ (a : After). is_taken a.sampled.outcome) (sym pair_steps) ∙ e in
        ap (moved_both part b x) (pair_steps ∙ n.still (λ none. true≢false (sym (n.takes ∙ eq-eqb _ _ none) ∙ refused)))

    pub taken_told : pair_takes part b x ≡ true → let given = answers_after (pair_outcome part b x).sampled.outcome (two 0 0) in
        (pair_outcome part b x).sampled.outcome ≡ Taken given.left given.right
    unfolding pair_takes
    taken_told = taken_by (pair_outcome part b x).sampled.outcome

    kept_mode_lem : pair_takes part b x ≡ true → (pair_next part b x).left.notes.fwft ≡ (pair_next part b x).right.notes.fwft
    kept_mode_lem e =
        let each = taken_each (taken_told e) in
        let pins = sym (same_pins_lem x.left x.right each.same) in
        ap (λ (m : Moment). m.notes.fwft) each.left_next
        ∙ mode_next_lem part b.left x.left (taken_single part b.left x.left each.left_outcome)
        ∙ (λ i. cond (pins i).mrs (g.mode i) (pins i).fwft)
        ∙ sym (mode_next_lem part b.right x.right (taken_single part b.right x.right each.right_outcome))
        ∙ ap (λ (m : Moment). m.notes.fwft) (sym each.right_next)

    by_verdict_lem : (verdict : Bool) → pair_takes part b x ≡ verdict → Paired part (pair_next part b x)
    by_verdict_lem true e =
        let each = taken_each (taken_told e) in
        record {
          noting = g.noting;
          left_counts = counts_next part b.left x.left g.left_counts;
          right_counts = counts_next part b.right x.right g.right_counts;
          left = rw each.left_next (told_next part b.left g.left_counts g.left x.left);
          right = rw each.right_next (told_next part b.right g.right_counts g.right x.right);
          mode = kept_mode_lem e;
        }
    by_verdict_lem false e = subst (Paired part) (sym (refused_neither e)) g

    pub paired_next : Paired part (pair_next part b x)
    paired_next = by_verdict_lem (pair_takes part b x) refl

module _ (part : Part) where
  pub paired_led : (xs : List Records) (b : Pairing) → Paired part b → Paired part (pair_led part b xs)
  unfolding pair_led
  paired_led [] b g = g
  paired_led (x ∷ xs) b g = paired_led xs (pair_next part b x) (paired_next part b g x)

  pub paired_by : Noting part → (memory : Two (List ℕ)) → length memory.left ≡ depth_of part → length memory.right ≡ depth_of part
      → Paired part (powered_both memory)
  unfolding powered_both led counts_led power_up
  paired_by noting memory l r = record {
    noting = noting;
    left_counts = no_counts;
    right_counts = no_counts;
    left = told_after part memory.left l [];
    right = told_after part memory.right r [];
    mode = refl;
  }

  pub paired_powered : (memory : Two (List ℕ)) → length memory.left ≡ depth_of part → length memory.right ≡ depth_of part → Paired part (powered_both memory)
  paired_powered memory l r = paired_by (λ b x a. refl) memory l r

  -- each half is where its own records of the samples taken lead the single part
  abbrev Leads : Pairing → Pairing → List Records → Type 0
  Leads b there xs = (there.left ≡ led part b.left (lefts xs)) × (there.right ≡ led part b.right (rights xs))

  leads_by : (x : Records) (b : Pairing) → Paired part b → (there : Pairing) (xs : List Records) (verdict : Bool) → pair_takes part b x ≡ verdict
      → Leads (pair_next part b x) there xs → Leads b there (cond verdict (x ∷ xs) xs)
  unfolding led
  leads_by x b g there xs true e rest =
      let each = taken_each part b g x (taken_told part b g x e) in
      (rest.0 ∙ ap (λ (m : Moment). led part m (lefts xs)) each.left_next, rest.1 ∙ ap (λ (m : Moment). led part m (rights xs)) each.right_next)
  leads_by x b g there xs false e rest = subst (λ (c : Pairing). Leads c there xs) (refused_neither part b g x e) rest

  pub halves_led : (xs : List Records) (b : Pairing) → Paired part b → Leads b (pair_led part b xs) (taken_of part b xs)
  unfolding pair_led led taken_of
  halves_led [] b g = (refl, refl)
  halves_led (x ∷ xs) b g =
      leads_by x b g (pair_led part (pair_next part b x) xs) (taken_of part (pair_next part b x) xs) (pair_takes part b x) refl
      (halves_led xs (pair_next part b x) (paired_next part b g x))
