-- What is turned away, on a run: it ends at a refused record, with its index and number, or past the whole records, with 4 where bytes are left
-- over. A lenient run goes to the end and marks each record with its number.
use Rattle.std.specs.Prelude.{ℕ, ◌+◌, ◌*◌, ◌/◌, ◌%◌, ◌≤◌, ◌<◌, Bool, true, List, ◌++◌, ◌≢◌, ◌≡◌, refl, get_or, length}
use Rattle.std.proofs.Common.{◌∙◌, ne_eqb}
use Rattle.counts.specs.declared.part.Part.{Part}
use Rattle.fifo.specs.Outcome.{Taken, Refused}
use Rattle.fifo.specs.NumberLaws.{step_numbered}
use Rattle.fifo.specs.Sample.{After, record_refusal}
use Rattle.notes.specs.Fold.{noted}
use Rattle.notes.specs.TraceLaws as trace
use Rattle.pins.specs.Answer.{put_answer}
use Rattle.pins.specs.Trace.{word_at}
use Rattle.runs.specs.FoldLaws.{records_cut}
use Rattle.runs.specs.Run.{Ended, Progress, turn, turned, worked}

abbrev pub Ending : Bool → Part → List ℕ → ℕ → Ended → Type 0
Ending lenient part bytes = trace.Ending (λ index s. record_refusal part (word_at bytes (index * 4)) s) lenient (length bytes / 4) (length bytes % 4)

pub run_ends : (lenient : Bool) (part : Part) (bytes : List ℕ) (g : Progress) → Ending lenient part bytes g.accepted (worked lenient part bytes g)
unfolding worked
run_ends lenient part = trace.work_ends records_cut (turned part) (record_refusal part) (λ x s memory. (step_numbered s memory x part).told) lenient

-- a refused record writes no answer and is not counted; a taken one's answer goes to its own three bytes
module _ (lenient : Bool) (index : ℕ) (a : After) (g : Progress) where
  pub refused_noted : (number : ℕ) → number ≢ 0 → a.sampled.outcome ≡ Refused number
      → ((noted lenient index (turn a) g).answers ≡ g.answers) × ((noted lenient index (turn a) g).accepted ≡ g.accepted)
  refused_noted number some e = rw e (refl, simp (ne_eqb number 0 some))

  pub taken_noted : (answer : ℕ) → a.sampled.outcome ≡ Taken answer
      → ((noted lenient index (turn a) g).answers ≡ put_answer g.answers index answer) × ((noted lenient index (turn a) g).accepted ≡ g.accepted + 1)
  taken_noted answer e = rw e (refl, refl)

-- the mark at an index is the number of the record there, in the state that the records before it left
pub mark_told : (part : Part) (u v : List ℕ) (i : ℕ) (g : Progress) → length u ≡ i * 4 → 4 ≤ length v → i < length g.marks
    → get_or (worked true part (u ++ v) g).progress.marks i 0 ≡ record_refusal part (word_at v 0) (worked true part u g).progress.state
unfolding worked
mark_told part u v i g e more room =
    trace.mark_told records_cut (turned part) u v i e g more room ∙ (step_numbered _ (worked true part u g).progress.memory (word_at v 0) part).told
