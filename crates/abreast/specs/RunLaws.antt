-- A run of a pair, strict or lenient, leads where its samples lead one by one.
use Rattle.std.specs.Prelude.{ℕ, Bool, true, ◌≢◌, ◌≡◌, take}
use mathlib.Core.List.{List, [], ◌∷◌}
use Rattle.std.proofs.Math.Path.{refl, subst}
use Rattle.std.proofs.Common.{◌∙◌, zero-add, arith}
use Rattle.counts.specs.declared.part.Part.{Part}
use Rattle.counts.specs.Part.{number_of}
use Rattle.counts.specs.PartLaws.{own_number}
use Rattle.notes.specs.Fold.{begun, ended, started}
use Rattle.notes.specs.ReachLaws.{Follows, cond_either, fold_follows, fold_number, left_by}
use Rattle.pair.specs.Sample.{After}
use Rattle.pair_runs.specs.Run.{fitting, run_of}
use Rattle.pair_work.specs.declared.samples.Sample.{Sample}
use Rattle.pair_work.specs.declared.samples.Sample.TheVariants.{Whole, Leftover, End}
use Rattle.pair_work.specs.Samples as samples
use Rattle.pair_work.specs.Samples.{sample_at, samples_from, whole_samples}
use Rattle.pair_work.specs.Work.{Ended, Progress, at_end, turned, worked}
use Rattle.abreast.specs.Abreast.{Records}
use Rattle.abreast.specs.Pairing.{Pairing, halves_of, memories_of, pair_led, pair_next}
use Rattle.abreast.specs.PairingLaws.{Paired, pair_steps, paired_next, passes_test_lem, step_not_three}

end_not_three : (r : Sample) → samples.number_of r ≢ 3
end_not_three (Whole left right) e = omega arith
end_not_three Leftover e = omega arith
end_not_three End e = omega arith

module _ (part : Part) where
  steps_lead : (xs : List Records) (b : Pairing) → Paired part b → let left = left_by (turned part) (halves_of b) (memories_of b) xs in
      (left.state ≡ halves_of (pair_led part b xs)) × (left.memory ≡ memories_of (pair_led part b xs))
  unfolding pair_led pair_next
  steps_lead [] b g = (refl, refl)
  steps_lead (x ∷ xs) b g =
      subst (λ (a : After). let left = left_by (turned part) a.sampled.state a.memory xs in
      (left.state ≡ halves_of (pair_led part (pair_next part b x) xs)) × (left.memory ≡ memories_of (pair_led part (pair_next part b x) xs)))
      (pair_steps part b g x) (steps_lead xs (pair_next part b x) (paired_next part b g x))

  module _ (b : Pairing) (g : Paired part b) (lenient : Bool) (bytes answers marks : List ℕ) where
    abbrev start : Progress
    start = started (halves_of b) (memories_of b) answers marks

    abbrev run : Ended
    run = run_of lenient (number_of part) bytes start

    -- it is refused 2, or works the samples
    run_by : (P : Ended → Type 0) → (fitting lenient bytes start part ≡ true → P (worked lenient part bytes start)) → P (ended 2 0 start) → P run
    unfolding run_of begun
    run_by P f h =
        rw (own_number part, passes_test_lem part b g)
        (cond_either P (fitting lenient bytes start part) (worked lenient part bytes start) (ended 2 0 start) f h)

    run_follows : Follows (turned part) start (samples_from bytes 0 (whole_samples bytes)) 0 run
    unfolding worked
    run_follows =
        run_by (Follows (turned part) start (samples_from bytes 0 (whole_samples bytes)) 0)
        (λ fits. fold_follows (turned part) lenient (at_end bytes) (samples_from bytes 0 (whole_samples bytes)) 0 start)
        (record { many = 0; further = refl; state = refl; memory = refl })

    pub run_led : let end = pair_led part b (take run.index (samples_from bytes 0 (whole_samples bytes))) in
        (run.progress.state ≡ halves_of end) × (run.progress.memory ≡ memories_of end)
    run_led =
        let f = run_follows in
        let many : run.index ≡ f.many = f.further ∙ zero-add f.many in
        let lead = steps_lead (take f.many (samples_from bytes 0 (whole_samples bytes))) b g in
        rw many (f.state ∙ lead.0, f.memory ∙ lead.1)

    pub run_not_three : run.refusal ≢ 3
    unfolding worked
    run_not_three =
        run_by (λ e. e.refusal ≢ 3)
        (λ fits. fold_number (turned part) (λ number. number ≢ 3) (step_not_three part) lenient (at_end bytes)
        (end_not_three (sample_at bytes (whole_samples bytes))) (samples_from bytes 0 (whole_samples bytes)) 0 start)
        (λ e. omega arith)
