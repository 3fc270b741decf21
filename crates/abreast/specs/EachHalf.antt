-- Order 1: each half of a pair is a part. Demands 2 and 3 hold of it, for either part number, any words in the two memories at power-up and any
-- samples, of which refused ones are skipped.
use Rattle.std.specs.Prelude.{ℕ, Bool, List, ◌∷◌, ◌++◌, ◌≢◌, ◌≡◌, length, take}
use Rattle.std.proofs.Common.{sym, ap, subst, ◌∙◌}
use Rattle.std.proofs.Math.Path.{refl}
use Rattle.counts.specs.declared.part.Part.{Part}
use Rattle.counts.specs.Part.{depth_of, number_of}
use Rattle.fifo.specs.Outcome as fifo
use Rattle.notes.specs.Fold.{started}
use Rattle.pair.specs.Outcome.{Taken}
use Rattle.pair.specs.Sample as pair
use Rattle.halves.specs.declared.state.Halves.{Halves}
use Rattle.halves.specs.State.{PoweredUp}
use Rattle.halves.specs.Two.{Two}
use Rattle.pair_runs.specs.Run.{run_of}
use Rattle.pair_work.specs.Samples.{samples_from, whole_samples}
use Rattle.pair_work.specs.Work.{Ended}
use Rattle.pins.specs.Record.{pins_of}
use Rattle.history.specs.Asked.{ShowsWord}
use Rattle.history.specs.Crossing.{crossed_led, uncrossed}
use Rattle.history.specs.Flags.{Judged, flags_judged}
use Rattle.history.specs.Histories.{Kept, TellsInTime, Waiting, answer_in_time, answered, in_time_through, kept}
use Rattle.history.specs.Trace.{Answers, Moment, led, next, outcome, power_up}
use Rattle.abreast.specs.Abreast.{Records}
use Rattle.abreast.specs.Pairing.{Pairing, halves_of, lefts, memories_of, pair_led, pair_outcome, powered_both, rights, taken_of}
use Rattle.abreast.specs.PairingLaws.{Noting, halves_led, pair_not_three, paired_by, paired_led, taken_each}
use Rattle.abreast.specs.RunLaws.{run_led, run_not_three}

-- A half that is where its records of the samples taken lead the single part by itself; and so what is proved of a part is true of it.
pub record IsPart (part : Part) (memory records : List ℕ) (half : Moment) : Type 0 where
  pub same : half ≡ led part (power_up memory) records
  pub kept : Kept part half
  pub in_time : (earlier : List ℕ) (x : ℕ) (later : List ℕ) → records ≡ earlier ++ (x ∷ later)
      → Waiting 3 4 part (led part (power_up memory) earlier) x later → ShowsWord part half
  pub judged : Judged part half (crossed_led part (power_up memory) records uncrossed)

-- The answer of a half to a sample that the pair takes is that part's answer, and tells in time.
pub record AnswersAsPart (part : Part) (memory records : List ℕ) (half : Moment) (x answer : ℕ) : Type 0 where
  pub same : (outcome part (led part (power_up memory) records) x).sampled.outcome ≡ fifo.Taken answer
  pub shown : Answers part (pins_of x) (next part half x).state answer
  pub in_time : TellsInTime part memory records x answer

-- The pair's own power-up is where these moments begin.
pub begins_powered : (memory : Two (List ℕ)) (h : Halves) → PoweredUp h → h ≡ halves_of (powered_both memory)
unfolding powered_both power_up
begins_powered memory h e = e

is_part : (part : Part) (memory : List ℕ) → length memory ≡ depth_of part → (records : List ℕ) (half : Moment) → half ≡ led part (power_up memory) records
    → IsPart part memory records half
is_part part memory whole records half e = record {
  same = e;
  kept = subst (Kept part) (sym e) (kept part memory whole records);
  in_time = λ earlier x later f w. subst (ShowsWord part) (sym e) (in_time_through part memory whole records earlier x later f w);
  judged = subst (λ (m : Moment). Judged part m (crossed_led part (power_up memory) records uncrossed)) (sym e) (flags_judged part memory whole records);
}

answers_as_part : (part : Part) (memory : List ℕ) → length memory ≡ depth_of part → (records : List ℕ) (half : Moment) → half ≡ led part (power_up memory) records
    → (x answer : ℕ) → (outcome part half x).sampled.outcome ≡ fifo.Taken answer → AnswersAsPart part memory records half x answer
answers_as_part part memory whole records half e x answer given =
    let there = ap (λ (m : Moment). (outcome part m x).sampled.outcome) (sym e) ∙ given in
    record {
      same = there;
      shown = subst (λ (m : Moment). Answers part (pins_of x) (next part m x).state answer) (sym e) (answered part memory whole records x answer there);
      in_time = answer_in_time part memory whole records x answer there;
    }

module _ (part : Part) (memory : Two (List ℕ)) (left : length memory.left ≡ depth_of part) (right : length memory.right ≡ depth_of part)
    (samples : List Records) where
  abbrev there : Pairing
  there = pair_led part (powered_both memory) samples

  abbrev taken : List Records
  taken = taken_of part (powered_both memory) samples

  leads : Noting part → (there.left ≡ led part (power_up memory.left) (lefts taken)) × (there.right ≡ led part (power_up memory.right) (rights taken))
  unfolding powered_both
  leads noting = halves_led part samples (powered_both memory) (paired_by part noting memory left right)

  pub each_half : IsPart part memory.left (lefts taken) there.left × IsPart part memory.right (rights taken) there.right
  each_half =
      let each = leads (λ b x a. refl) in
      (is_part part memory.left left (lefts taken) there.left each.0, is_part part memory.right right (rights taken) there.right each.1)

  pub each_answered : (x : Records) (l r : ℕ) → (pair_outcome part there x).sampled.outcome ≡ Taken l r
      → AnswersAsPart part memory.left (lefts taken) there.left x.left l × AnswersAsPart part memory.right (rights taken) there.right x.right r
  each_answered x l r e =
      let lead = leads (λ b x a. refl) in
      let each = taken_each part there (paired_led part samples (powered_both memory) (paired_by part (λ b x a. refl) memory left right)) x e in (
        answers_as_part part memory.left left (lefts taken) there.left lead.0 x.left l each.left_outcome,
        answers_as_part part memory.right right (rights taken) there.right lead.1 x.right r each.right_outcome,
      )

  -- no sample that comes next is refused 3
  pub never_three_lem : (x : Records) → pair.number_of (pair_outcome part there x).sampled.outcome ≢ 3
  never_three_lem = pair_not_three part there (paired_led part samples (powered_both memory) (paired_by part (λ b x a. refl) memory left right))

  -- A run that goes on from there, strict or lenient, leads where the samples that it worked lead one by one, and is not refused 3.
  module _ (lenient : Bool) (bytes answers marks : List ℕ) where
    abbrev run : Ended
    run = run_of lenient (number_of part) bytes (started (halves_of there) (memories_of there) answers marks)

    abbrev end : Pairing
    end = pair_led part there (take run.index (samples_from bytes 0 (whole_samples bytes)))

    pub run_leads : (run.progress.state ≡ halves_of end) × (run.progress.memory ≡ memories_of end)
    run_leads = run_led part there (paired_led part samples (powered_both memory) (paired_by part (λ b x a. refl) memory left right)) lenient bytes answers marks

    pub run_never_three : run.refusal ≢ 3
    run_never_three = run_not_three part there (paired_led part samples (powered_both memory) (paired_by part (λ b x a. refl) memory left right)) lenient bytes answers marks
