-- Order 4: a run of a chain over a trace's bytes, strict or lenient, leads where its records lead one by one.
use Rattle.std.specs.Prelude.{ℕ, zero, suc, ◌+◌, Bool, ◌≡◌, take}
use mathlib.Core.List.{List, [], ◌∷◌, ◌++◌}
use Rattle.std.proofs.Common.{inl, inr, sym, ◌∙◌, arith}
use Rattle.std.proofs.Math.Path.{refl, subst}
use Rattle.std.proofs.Math.Decide.{ℕ_discrete}
use Rattle.std.proofs.Math.Nat.{zero-add}
use Rattle.chain_work.specs.declared.records.Record.{Record}
use Rattle.chain_work.specs.declared.records.Record.TheVariants.{Whole, Leftover, End}
use Rattle.chain_work.specs.Records as records
use Rattle.chain_work.specs.Records.{links_at, record_at, records_from, whole_records}
use Rattle.rows.specs.Step.{chain_stepped}
use Rattle.chain_work.specs.Work.{Ended, at_end, turned, worked}
use Rattle.counts.specs.declared.part.Part.{Part}
use Rattle.fifo.specs.Sample.{number_of}
use Rattle.links.specs.declared.record.Links.{Links}
use Rattle.notes.specs.Fold.{started}
use Rattle.notes.specs.ReachLaws.{Follows, Reaches, fold_follows, left_by, reaches}
use Rattle.pins.specs.Trace.{items_from}
use Rattle.linked.specs.Chaining.{Chain, Narrow, chain_led, chain_next, chain_outcome}
use Rattle.linked.specs.Linked.{Linked}
use Rattle.linked.specs.LinkedLaws.{linked_led}
use Rattle.linked.specs.RefusedLaws.{Comes, only_these}

-- D of a record that is read from bytes has 18 bits
pub records_narrow : (bytes : List ℕ) (many index whole : ℕ) → Narrow (take many (records_from bytes index whole))
unfolding items_from
records_narrow bytes zero index whole = tt
records_narrow bytes (suc many) index zero = tt
records_narrow bytes (suc many) index (suc whole) = (omega arith, records_narrow bytes many (index + 1) whole)

pub narrow_both : (xs ys : List Links) → Narrow xs → Narrow ys → Narrow (xs ++ ys)
narrow_both [] ys h k = k
narrow_both (x ∷ xs) ys h k = (h.0, narrow_both xs ys h.1 k)

end_comes : (r : Record) → Comes (records.number_of r)
end_comes (Whole head more) = inl refl
end_comes Leftover = inr (inl refl)
end_comes End = inl refl

module _ (part : Part) where
  pub led_parts : (xs ys : List Links) (c : Chain) → chain_led part c (xs ++ ys) ≡ chain_led part (chain_led part c xs) ys
  unfolding chain_led
  led_parts [] ys c = refl
  led_parts (x ∷ xs) ys c = led_parts xs ys (chain_next part c x)

  steps_lead : (xs : List Links) (c : Chain) → let left = left_by (turned part) c.row c.memory xs in
      (left.state ≡ (chain_led part c xs).row) × (left.memory ≡ (chain_led part c xs).memory)
  unfolding chain_led chain_next chain_outcome
  steps_lead [] c = (refl, refl)
  steps_lead (x ∷ xs) c = steps_lead xs (chain_next part c x)

  module _ (c : Chain) (lenient : Bool) (bytes answers marks : List ℕ) where
    abbrev run : Ended
    run = worked lenient part bytes (started c.row c.memory answers marks)

    abbrev pub samples_run : List Links
    samples_run = take run.index (records_from bytes 0 (whole_records bytes))

    pub run_led : (run.progress.state ≡ (chain_led part c samples_run).row) × (run.progress.memory ≡ (chain_led part c samples_run).memory)
    unfolding worked
    run_led =
        let records = records_from bytes 0 (whole_records bytes) in
        let f : Follows (turned part) (started c.row c.memory answers marks) records 0 run =
        fold_follows (turned part) lenient (at_end bytes) records 0 (started c.row c.memory answers marks) in
        let many : run.index ≡ f.many = f.further ∙ zero-add f.many in
        let lead = steps_lead (take f.many records) c in
        rw many (f.state ∙ lead.0, f.memory ∙ lead.1)

    -- it ends with no other number than its samples can have
    module _ (n : ℕ) (h : Linked part n c) where
      abbrev end : Chain
      end = chain_led part c samples_run

      linked_there : Linked part n end
      linked_there = linked_led part n samples_run (records_narrow bytes run.index 0 (whole_records bytes)) c h

      at_sample_lem : (turned part (links_at bytes run.index) run.progress.state run.progress.memory).number ≡ run.refusal
          → Comes run.refusal
      unfolding chain_outcome
      at_sample_lem e =
          let x = links_at bytes run.index in
          let there = chain_stepped part x run.progress.state run.progress.memory in
          let same : number_of there.outcome ≡ number_of (chain_outcome part end x).outcome =
          (λ i. number_of (chain_stepped part x (run_led.0 i) (run_led.1 i)).outcome) in
          subst Comes (sym same ∙ e) (only_these part n end linked_there x)

      pub run_comes : Comes run.refusal
      unfolding worked
      run_comes = by_end (ℕ_discrete run.index (0 + whole_records bytes))
        where
          reached : Reaches (turned part) lenient (links_at bytes) (at_end bytes) 0 (whole_records bytes) 0 run
          reached = reaches (turned part) (links_at bytes) (at_end bytes) lenient (whole_records bytes) 0 (started c.row c.memory answers marks)

          by_end : Dec (run.index ≡ 0 + whole_records bytes) → Comes run.refusal
          by_end (yes e) = subst Comes (sym (reached.at_the_end e)) (end_comes (record_at bytes (whole_records bytes)))
          by_end (no d) = at_sample_lem (reached.at_sample d).0
