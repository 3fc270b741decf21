-- From power-up on, after any samples, the notes agree with the model.
use Rattle.std.specs.Prelude.{ℕ, Bool, cond, ◌≢◌, ◌≡◌, refl, eqb, length}
use Rattle.std.proofs.Math.Bool.{true, false}
use mathlib.Core.List.{List, [], ◌∷◌}
use Rattle.std.proofs.Common.{sym, ◌∙◌, eq-eqb, eqb-true, arith}
use Rattle.std.proofs.Math.Path.{subst}
use Rattle.chip.specs.declared.advance.Advanced.{Advanced}
use Rattle.chip.specs.declared.state.State.{State}
use Rattle.chip.specs.Advance.{advanced}
use Rattle.refusals.specs.ReachLaws.{counts_after, power_up_reached, reach_stays, reached_passes}
use Rattle.refusals.specs.RefusalLaws.{numbers}
use Rattle.refusals.specs.Refuse.{refusal_of}
use Rattle.chip.specs.Reset.{cleared, powered_up}
use Rattle.counts.specs.declared.part.Part.{Part}
use Rattle.counts.specs.Part.{depth_of, number_of}
use Rattle.counts.specs.PartLaws.{own_number}
use Rattle.fifo.specs.Sample as sample
use Rattle.fifo.specs.Sample.{After, fetched_for, is_taken, record_refusal, stepped, taken, took, turned_away}
use Rattle.fifo.specs.NumberLaws.{by_pins}
use Rattle.fifo.specs.SampleLaws.{sample_is_step}
use Rattle.pins.specs.Record.{pins_of}
use Rattle.views.specs.TrueCounts.{TrueCounts, no_counts}
use Rattle.history.specs.Told.{Told}
use Rattle.history.specs.ToldLaws.{agrees_after}
use Rattle.history.specs.Trace.{Moment, led, moved_to, next, outcome, power_up}

-- of the numbers that a record can be refused with, none is 3
pub not_three : (part : Part) (x : ℕ) (s : State) → record_refusal part x s ≢ 3
not_three part x s =
    rw (by_pins part x s)
    (numbers (λ (n : ℕ). n ≢ 3) part (pins_of x) s (λ e. omega arith) (λ e. omega arith) (λ e. omega arith) (λ e. omega arith) (λ e. omega arith)
    (λ e. omega arith) (λ e. omega arith) (λ row e. omega arith))

number_by : (is : Bool) (a : Advanced) (number : ℕ) (s : State) (memory : List ℕ) → number ≢ 3
    → sample.number_of (cond is (took a memory) (turned_away number s memory)).sampled.outcome ≢ 3
number_by true a number s memory h e = omega arith
number_by false a number s memory h e = h e

pub step_not_three : (part : Part) (x : ℕ) (s : State) (memory : List ℕ) → sample.number_of (stepped part x s memory).sampled.outcome ≢ 3
unfolding stepped taken
step_not_three part x s memory =
    number_by (eqb (record_refusal part x s) 0) (advanced part (pins_of x) (fetched_for part s memory) s) (record_refusal part x s) s memory (not_three part x s)

module _ (part : Part) where
  -- the true counts after a sample, and after many
  abbrev pub counts_by : Moment → ℕ → After → TrueCounts → TrueCounts
  counts_by m x a t = cond (is_taken a.sampled.outcome) (counts_after part (pins_of x) m.state t) t

  unfoldable pub counts_next : Moment → ℕ → TrueCounts → TrueCounts
  counts_next m x t = counts_by m x (outcome part m x) t

  unfoldable pub counts_led : Moment → List ℕ → TrueCounts → TrueCounts
  counts_led m [] t = t
  counts_led m (x ∷ xs) t = counts_led (next part m x) xs (counts_next m x t)

  module _ (m : Moment) (t : TrueCounts) (g : Told part m t) (x : ℕ) where
    -- refusals 1 to 3 do not come
    pub sample_steps : outcome part m x ≡ stepped part x m.state m.memory
    unfolding outcome
    sample_steps =
        sample_is_step (number_of part) x m.state m.memory part (own_number part) (eq-eqb (length m.memory) (depth_of part) g.agrees.whole)
        (reached_passes part m.state t g.reached)

    not_refused : eqb (record_refusal part x m.state) 0 ≡ true → refusal_of part (pins_of x) m.state ≡ 0
    not_refused e = sym (by_pins part x m.state) ∙ eqb-true _ _ e

    told_by : (is : Bool) → eqb (record_refusal part x m.state) 0 ≡ is
        → let a = cond is (taken part (pins_of x) m.state m.memory) (turned_away (record_refusal part x m.state) m.state m.memory) in
        Told part (moved_to part m x a) (counts_by m x a t)
    unfolding taken
    told_by true e = record {
      reached = reach_stays part (pins_of x) (fetched_for part m.state m.memory) m.state t g.reached (not_refused e);
      agrees = agrees_after part m t g (pins_of x);
    }
    told_by false e = g

    pub told_next : Told part (next part m x) (counts_next m x t)
    unfolding next counts_next stepped
    told_next =
        subst (λ (a : After). Told part (moved_to part m x a) (counts_by m x a t)) (sym sample_steps) (told_by (eqb (record_refusal part x m.state) 0) refl)

    pub outcome_not_three : sample.number_of (outcome part m x).sampled.outcome ≢ 3
    outcome_not_three =
        subst (λ (a : After). sample.number_of a.sampled.outcome ≢ 3) (sym sample_steps) (step_not_three part x m.state m.memory)

  pub told_led : (xs : List ℕ) (m : Moment) (t : TrueCounts) → Told part m t → Told part (led part m xs) (counts_led m xs t)
  unfolding led counts_led
  told_led [] m t g = g
  told_led (x ∷ xs) m t g = told_led xs (next part m x) (counts_next m x t) (told_next m t g x)

  told_power_up : (memory : List ℕ) → length memory ≡ depth_of part → Told part (power_up memory) no_counts
  unfolding power_up powered_up cleared
  told_power_up memory whole = record {
    reached = power_up_reached part;
    agrees = record {
      whole = whole;
      wclk = refl;
      rclk = refl;
      fwft = refl;
      written = refl;
      read = refl;
      holds = λ i l near. absurd (omega arith);
      same = refl;
      newest = λ some. absurd (omega arith);
      came = tt;
    };
  }

  pub told_after : (memory : List ℕ) → length memory ≡ depth_of part → (samples : List ℕ)
      → Told part (led part (power_up memory) samples) (counts_led (power_up memory) samples no_counts)
  told_after memory whole samples = told_led samples (power_up memory) no_counts (told_power_up memory whole)
