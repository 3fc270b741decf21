-- A run, strict or lenient, leads where its records lead one by one.
use Rattle.std.specs.Prelude.{ℕ, Bool, true, ◌≢◌, ◌≡◌}
use mathlib.Core.List.{List, [], ◌∷◌, ◌++◌}
use Rattle.std.proofs.Math.Path.{refl, subst}
use Rattle.std.proofs.Common.{◌∙◌, zero-add, arith}
use Rattle.refusals.specs.ReachLaws.{reached_passes}
use Rattle.counts.specs.declared.part.Part.{Part}
use Rattle.counts.specs.PartLaws.{own_number}
use Rattle.fifo.specs.Sample.{After}
use Rattle.notes.specs.Fold.{begun, ended, started}
use Rattle.notes.specs.ReachLaws.{Follows, cond_either, fold_follows, fold_number, left_by}
use Rattle.pins.specs.declared.trace.Record.{Record}
use Rattle.pins.specs.declared.trace.Record.TheVariants.{Whole, Leftover, End}
use Rattle.pins.specs.Trace as trace
use Rattle.pins.specs.Trace.{record_at, records_from, whole_records}
use Rattle.runs.specs.Run.{Ended, Progress, at_end, fitting, run_of, turned, worked}
use Rattle.views.specs.TrueCounts.{TrueCounts}
use Rattle.history.specs.LedLaws.{counts_next, sample_steps, step_not_three, told_next}
use Rattle.history.specs.Told.{Told}
use Rattle.history.specs.Trace.{Moment, at, led, next, run_from, worked_on}

abbrev NotThree : Ended → Type 0
NotThree e = e.refusal ≢ 3

end_not_three : (r : Record) → trace.number_of r ≢ 3
end_not_three (Whole word unsettled) e = omega arith
end_not_three Leftover e = omega arith
end_not_three End e = omega arith

module _ (part : Part) where
  -- the steps of a run leave what the samples one by one lead to
  steps_lead : (xs : List ℕ) (m : Moment) (t : TrueCounts) → Told part m t → let left = left_by (turned part) m.state m.memory xs in
      (left.state ≡ (led part m xs).state) × (left.memory ≡ (led part m xs).memory)
  unfolding led next
  steps_lead [] m t told = (refl, refl)
  steps_lead (x ∷ xs) m t told =
      subst (λ (a : After). let left = left_by (turned part) a.sampled.state a.memory xs in
      (left.state ≡ (led part (next part m x) xs).state) × (left.memory ≡ (led part (next part m x) xs).memory))
      (sample_steps part m t told x) (steps_lead xs (next part m x) (counts_next part m x t) (told_next part m t told x))

  module _ (m : Moment) (t : TrueCounts) (told : Told part m t) (lenient : Bool) (bytes answers marks : List ℕ) where
    abbrev start : Progress
    start = started m.state m.memory answers marks

    -- it is refused 2, or works the records
    pub run_by : (P : Ended → Type 0) → (fitting lenient bytes start part ≡ true → P (worked lenient part bytes start)) → P (ended 2 0 start)
        → P (run_from part m lenient bytes answers marks)
    unfolding run_of begun
    run_by P f g =
        rw (own_number part, reached_passes part m.state t told.reached)
        (cond_either P (fitting lenient bytes start part) (worked lenient part bytes start) (ended 2 0 start) f g)

    run_follows : Follows (turned part) start (records_from bytes 0 (whole_records bytes)) 0 (run_from part m lenient bytes answers marks)
    unfolding worked
    run_follows =
        run_by (Follows (turned part) start (records_from bytes 0 (whole_records bytes)) 0)
        (λ fits. fold_follows (turned part) lenient (at_end bytes) (records_from bytes 0 (whole_records bytes)) 0 start)
        (record { many = 0; further = refl; state = refl; memory = refl })

    pub run_not_three : (run_from part m lenient bytes answers marks).refusal ≢ 3
    unfolding worked
    run_not_three =
        run_by NotThree
        (λ fits. fold_number (turned part) (λ number. number ≢ 3) (λ x s memory. step_not_three part x s memory) lenient (at_end bytes)
        (end_not_three (record_at bytes (whole_records bytes))) (records_from bytes 0 (whole_records bytes)) 0 start)
        (λ e. omega arith)

    pub run_led : let run = run_from part m lenient bytes answers marks in let end = led part m (worked_on run.index bytes) in
        at run.progress.state run.progress.memory end.notes ≡ end
    run_led =
        let f = run_follows in
        let many : (run_from part m lenient bytes answers marks).index ≡ f.many = f.further ∙ zero-add f.many in
        let lead = steps_lead (worked_on f.many bytes) m t told in
        rw (many, f.state ∙ lead.0, f.memory ∙ lead.1)

pub led_parts : (part : Part) (earlier later : List ℕ) (m : Moment) → led part m (earlier ++ later) ≡ led part (led part m earlier) later
unfolding led
led_parts part [] later m = refl
led_parts part (x ∷ earlier) later m = led_parts part earlier later (next part m x)
