-- Paper 02, order 4: parts chained in depth. All of it is said of the chain's own definition of one sample, from power-up on: for either part number,
-- one to eight parts, any words in their memories and any samples, of which refused ones are skipped, whatever the marks, clocks, enables and
-- resets. Accepted and taken are the words of an onlooker at each part, who goes by that part's pins and flags. Parts are counted from 0.
use Rattle.std.specs.Prelude.{ℕ, suc, ◌*◌, ◌-◌, ◌^◌, ◌≤◌, ◌<◌, Bool, List, ◌++◌, ◌≡◌, length, take}
use Rattle.std.proofs.Math.Bool.{true, false}
use Rattle.std.proofs.Common.{true≢false, ap, ◌∙◌, arith}
use Rattle.std.proofs.Math.Path.{refl, sym}
use Rattle.std.proofs.Math.Seq.{take-append_seam}
use Rattle.chain_work.specs.Records.{whole_records}
use Rattle.rows.specs.Step.{passes_to, started_to, state_of, wired_to}
use Rattle.chain_work.specs.Work.{Ended, worked}
use Rattle.counts.specs.declared.part.Part.{Part}
use Rattle.counts.specs.Part.{depth_of}
use Rattle.fifo.specs.Outcome.{Taken}
use Rattle.fifo.specs.Sample.{number_of}
use Rattle.links.specs.declared.record.Links.{Links}
use Rattle.links.specs.Wire.{wired}
use Rattle.notes.specs.Fold.{started}
use Rattle.pins.specs.Record.{word}
use Rattle.refusals.specs.Refuse.{refusal_of}
use Rattle.history.specs.Onlooker.{accepts, outside, reads}
use Rattle.linked.specs.AnswerLaws.{AnswersEnds, answers_ends}
use Rattle.linked.specs.Chaining.{Chain, Narrow, chain_led, chain_next, chain_outcome, chain_takes, inside_from, moment_of, powered_row, records_of, seen_at}
use Rattle.linked.specs.ChainingLaws.{Noting}
use Rattle.linked.specs.EachPart as each
use Rattle.linked.specs.EachPart.{IsPart}
use Rattle.linked.specs.Linked.{Linked, transfers, word_given}
use Rattle.linked.specs.LinkedLaws.{linked_from, linked_led}
use Rattle.linked.specs.OwnWords.{own_words}
use Rattle.linked.specs.PassedLaws.{Passed}
use Rattle.linked.specs.RefusedLaws.{Comes, all_pass, only_these, others_take, twelve_first}
use Rattle.linked.specs.RunLaws.{led_parts, narrow_both, records_narrow, run_comes, run_led, samples_run}
use Rattle.linked.specs.Taken.{inside}
use Rattle.linked.specs.TransferLaws.{reset_reads}
use Rattle.linked.specs.WordLaws.{words_by}

-- Between part k and the next one, by their pins and by their flags before a sample: the one gives its word up exactly when the other accepts one,
-- and the word on D is the one that stood in the register.
pub record Transfers (part : Part) (c : Chain) (x : Links) (k : ℕ) : Type 0 where
  pub both : reads (c.notes k) (wired_to part x c.row k) (seen_at part c.row k)
      ≡ accepts (c.notes (suc k)) (wired_to part x c.row (suc k)) (seen_at part c.row (suc k))
  pub same : reads (c.notes k) (wired_to part x c.row k) (seen_at part c.row k) ≡ true
      → word (wired_to part x c.row (suc k)).d ≡ (seen_at part c.row k).register

pub transfers_where : (part : Part) (n : ℕ) (c : Chain) → Linked part n c → (x : Links) → x.pins.d < 2 ^ 18 → chain_takes part c x ≡ true
    → (k : ℕ) → suc k < n → Transfers part c x k
unfolding wired_to wired
transfers_where part n c h x small e k l = record {
  both = transfers part n c h x small e k l;
  same = λ gives. sym (word_given part n c h x small e k l (away (outside x.pins) refl gives));
}
  where
    away : (is : Bool) → outside x.pins ≡ is → reads (c.notes k) (wired_to part x c.row k) (seen_at part c.row k) ≡ true
        → outside x.pins ≡ true
    away true f gives = f
    away false f gives =
        absurd (true≢false (sym gives ∙ reset_reads (c.notes k) (wired_to part x c.row k) (seen_at part c.row k) f))

module _ (part : Part) (n : ℕ) (some : 1 ≤ n) (few : n ≤ 8) (memory : List ℕ) (whole : length memory ≡ n * depth_of part)
    (samples : List Links) (narrow : Narrow samples) where
  abbrev there : Chain
  there = chain_led part (powered_row n memory) samples

  linked : Noting part → Linked part n there
  linked noting = linked_led part n samples narrow (powered_row n memory) (linked_from part n noting memory whole some few)

  -- Each part is a part: it is where the records wired to it in the samples taken lead the single part, and demand 3 holds of it.
  pub each_part : (i : ℕ) → i < n → IsPart part (own_words part memory i) (records_of part i (powered_row n memory) samples) (moment_of part there i)
  each_part = each.part_from part (λ c x a i. refl) n few memory whole samples narrow

  -- Every part passes 3, each time, and there are as many states and words as 13 and 2 ask for; so the sample with its tests gives the same.
  pub passes_each_time : (passes_to part there.row n ≡ true) × (there.row.count ≡ n) × (length there.memory ≡ n * depth_of part)
  passes_each_time =
      let h = linked (λ c x a i. refl) in
      (all_pass part n there h n (omega arith), h.chained.count, h.chained.whole)

  -- A transfer happens in both parts or in neither.
  pub both_or_neither : (x : Links) → x.pins.d < 2 ^ 18 → chain_takes part there x ≡ true → (k : ℕ) → suc k < n → Transfers part there x k
  both_or_neither x small e k l = transfers_where part n there (linked (λ c x a i. refl)) x small e k l

  -- The words: since the last reset the words accepted by the first part are, in order, those taken from the last, then for each part from the last
  -- back to the first its untaken output word, if there is one, and its memory from the read place on.
  pub in_order : (there.notes 0).accepted ≡ there.taken (n - 1) ++ inside_from part there (n - 1)
  unfolding inside_from
  in_order = words_by part n there (linked (λ c x a i. refl)) (λ c k. refl) (n - 1) (omega arith)

  pub taken_first : there.taken (n - 1) ≡ take (length (there.taken (n - 1))) (there.notes 0).accepted
  unfolding inside_from
  taken_first =
      let last = there.taken (n - 1) in
      let words = words_by part n there (linked (λ c x a i. refl)) (λ c k. refl) (n - 1) (omega arith) in
      sym (take-append_seam last (inside_from part there (n - 1))) ∙ ap (take (length last)) (sym words)

  -- Refused are only 4, 5, 14 and 12, and 12 for the record's D, by the first part alone.
  pub refused_only : (x : Links) → Comes (number_of (chain_outcome part there x).outcome)
  refused_only = only_these part n there (linked (λ c x a i. refl))

  pub twelve_at_first : (x : Links) → number_of (chain_outcome part there x).outcome ≡ 12
      → refusal_of part (wired_to part x there.row 0) (state_of there.row 0) ≡ 12
  twelve_at_first = twelve_first part n there (linked (λ c x a i. refl))

  -- A transfer is never refused: with 4, 5 and 14 passed no part but the first can refuse what is wired to it.
  pub never_refused : (x : Links) → Passed x (started_to there.row there.row.count) → (k : ℕ) → suc k < n
      → refusal_of part (wired_to part x there.row (suc k)) (state_of there.row (suc k)) ≡ 0
  never_refused = others_take part n there (linked (λ c x a i. refl))

  -- What the chain answers is what the onlookers at its two ends see: IR and PAF of the first part, OR, HF and PAE of the last and, where OE is LOW,
  -- its output register.
  pub answered : (x : Links) → x.pins.d < 2 ^ 18 → (answer : ℕ) → (chain_outcome part there x).outcome ≡ Taken answer
      → AnswersEnds part x.pins (chain_next part there x).row answer
  answered = answers_ends part n there (linked (λ c x a i. refl))

  -- A run over a trace's bytes, strict or lenient, that goes on from there leads where its records lead one by one, and so all of this is true of it.
  module _ (lenient : Bool) (bytes answers marks : List ℕ) where
    abbrev run : Ended
    run = worked lenient part bytes (started there.row there.memory answers marks)

    abbrev more : List Links
    more = samples_run part there lenient bytes answers marks

    abbrev end : Chain
    end = chain_led part (powered_row n memory) (samples ++ more)

    pub run_leads : (run.progress.state ≡ end.row) × (run.progress.memory ≡ end.memory)
    run_leads = rw (led_parts part samples more (powered_row n memory)) (run_led part there lenient bytes answers marks)

    pub run_narrow : Narrow (samples ++ more)
    run_narrow = narrow_both samples more narrow (records_narrow bytes run.index 0 (whole_records bytes))

    pub run_refused_only : Comes run.refusal
    run_refused_only = run_comes part there lenient bytes answers marks n (linked (λ c x a i. refl))

-- The words in two parts, and in eight.
abbrev inside_of : Part → Chain → ℕ → List ℕ
inside_of part c i = inside part (moment_of part c i)

pub in_two : (part : Part) (memory : List ℕ) → length memory ≡ 2 * depth_of part → (samples : List Links) → Narrow samples
    → let c = chain_led part (powered_row 2 memory) samples in let parts = inside_of part c in
    (c.notes 0).accepted ≡ c.taken 1 ++ (parts 1 ++ parts 0)
unfolding inside_from
in_two part memory whole samples narrow =
    let h = linked part 2 (omega arith) (omega arith) memory whole samples narrow (λ c x a i. refl) in
    words_by part 2 (chain_led part (powered_row 2 memory) samples) h (λ c k. refl) 1 (omega arith)

pub in_eight : (part : Part) (memory : List ℕ) → length memory ≡ 8 * depth_of part → (samples : List Links) → Narrow samples
    → let c = chain_led part (powered_row 8 memory) samples in let parts = inside_of part c in
    (c.notes 0).accepted ≡ c.taken 7 ++ (parts 7 ++ (parts 6 ++ (parts 5 ++ (parts 4 ++ (parts 3 ++ (parts 2 ++ (parts 1 ++ parts 0)))))))
unfolding inside_from
in_eight part memory whole samples narrow =
    let h = linked part 8 (omega arith) (omega arith) memory whole samples narrow (λ c x a i. refl) in
    words_by part 8 (chain_led part (powered_row 8 memory) samples) h (λ c k. refl) 7 (omega arith)
