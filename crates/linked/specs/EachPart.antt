-- Order 4: each part of a chain is a part. From power-up, for either part number, up to eight parts, any words in their memories and any samples, of
-- which refused ones are skipped, each is where the records wired to it in the samples taken lead the single part, in state, memory and notes; so
-- demand 3 holds of each.
use Rattle.std.specs.Prelude.{ℕ, ◌*◌, ◌≤◌, ◌<◌, List, ◌∷◌, ◌++◌, ◌≡◌, length}
use Rattle.std.proofs.Common.{sym, ap, subst, ◌∙◌}
use Rattle.std.proofs.Math.Path.{refl}
use Rattle.counts.specs.declared.part.Part.{Part}
use Rattle.counts.specs.Part.{depth_of}
use Rattle.links.specs.declared.record.Links.{Links}
use Rattle.history.specs.Asked.{ShowsWord}
use Rattle.history.specs.Crossing.{crossed_led, uncrossed}
use Rattle.history.specs.Flags.{Judged, flags_judged}
use Rattle.history.specs.Histories.{Kept, Waiting, in_time_through, kept}
use Rattle.history.specs.Trace.{Moment, led, power_up}
use Rattle.linked.specs.Chaining.{Narrow, chain_led, moment_of, powered_row, records_of}
use Rattle.linked.specs.ChainingLaws.{Noting, begins, chained_from, part_led}
use Rattle.linked.specs.OwnWords.{own_length, own_words}

-- a moment that these records lead the single part to; and so what is proved of a part is true of it
pub record IsPart (part : Part) (memory records : List ℕ) (m : Moment) : Type 0 where
  pub same : m ≡ led part (power_up memory) records
  pub kept : Kept part m
  pub in_time : (earlier : List ℕ) (x : ℕ) (later : List ℕ) → records ≡ earlier ++ (x ∷ later)
      → Waiting 3 4 part (led part (power_up memory) earlier) x later → ShowsWord part m
  pub judged : Judged part m (crossed_led part (power_up memory) records uncrossed)

is_part : (part : Part) (memory : List ℕ) → length memory ≡ depth_of part → (records : List ℕ) (m : Moment) → m ≡ led part (power_up memory) records
    → IsPart part memory records m
is_part part memory whole records m e = record {
  same = e;
  kept = subst (Kept part) (sym e) (kept part memory whole records);
  in_time = λ earlier x later f w. subst (ShowsWord part) (sym e) (in_time_through part memory whole records earlier x later f w);
  judged = subst (λ (there : Moment). Judged part there (crossed_led part (power_up memory) records uncrossed)) (sym e)
      (flags_judged part memory whole records);
}

pub part_from : (part : Part) → Noting part → (n : ℕ) → n ≤ 8 → (memory : List ℕ) → length memory ≡ n * depth_of part → (samples : List Links) → Narrow samples
    → (i : ℕ) → i < n
    → IsPart part (own_words part memory i) (records_of part i (powered_row n memory) samples)
    (moment_of part (chain_led part (powered_row n memory) samples) i)
part_from part noting n few memory whole samples narrow i l =
    let records = records_of part i (powered_row n memory) samples in
    is_part part (own_words part memory i) (own_length part memory i n whole l) records (moment_of part (chain_led part (powered_row n memory) samples) i)
    (part_led part n i l samples narrow (powered_row n memory) (chained_from part n memory whole few noting)
    ∙ ap (λ (m : Moment). led part m records) (begins part n memory whole few i l))

pub each_part : (part : Part) (n : ℕ) → n ≤ 8 → (memory : List ℕ) → length memory ≡ n * depth_of part → (samples : List Links) → Narrow samples
    → (i : ℕ) → i < n
    → IsPart part (own_words part memory i) (records_of part i (powered_row n memory) samples)
    (moment_of part (chain_led part (powered_row n memory) samples) i)
each_part part n few memory whole samples narrow i l = part_from part (λ c x a i. refl) n few memory whole samples narrow i l
