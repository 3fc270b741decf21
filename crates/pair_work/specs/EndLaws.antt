-- What is turned away, on a run of two parts: it ends at a refused sample, with its index and number, or past the whole samples, with 4 where
-- bytes are left over. A lenient run goes to the end and marks each sample with its number.
use Rattle.std.specs.Prelude.{ℕ, ◌+◌, ◌*◌, ◌/◌, ◌%◌, ◌≤◌, ◌<◌, Bool, true, List, ◌++◌, ◌≢◌, ◌≡◌, refl, get_or, length, set}
use Rattle.std.proofs.Common.{◌∙◌, ne_eqb, arith}
use Rattle.counts.specs.declared.part.Part.{Part}
use Rattle.notes.specs.Fold.{noted}
use Rattle.notes.specs.TraceLaws as trace
use Rattle.pair.specs.Outcome.{Taken, Refused}
use Rattle.halves.specs.Refuse.{pair_refusal}
use Rattle.pair.specs.Sample.{After, answers_after}
use Rattle.pair.specs.SampleLaws.{step_numbered}
use Rattle.halves.specs.Two.{two}
use Rattle.pins.specs.Answer.{put_answer}
use Rattle.pins.specs.Trace.{word_at}
use Rattle.pair_work.specs.FoldLaws.{samples_cut}
use Rattle.pair_work.specs.Work.{Ended, Progress, ran_of, turn, turned, worked}

abbrev pub Ending : Bool → Part → List ℕ → ℕ → Ended → Type 0
Ending lenient part bytes =
    trace.Ending (λ index h. pair_refusal part (two (word_at bytes (index * 8)) (word_at bytes (index * 8 + 4))) h) lenient
    (length bytes / 8) (length bytes % 8)

pub run_ends : (lenient : Bool) (part : Part) (bytes : List ℕ) (g : Progress) → Ending lenient part bytes g.accepted (worked lenient part bytes g)
unfolding worked
run_ends lenient part = trace.work_ends samples_cut (turned part) (pair_refusal part) (λ x h memory. (step_numbered part x h memory).told) lenient

-- a refused sample writes no answer and is not counted; a taken one's two answers go to its own six bytes, the left one first
module _ (lenient : Bool) (index : ℕ) (a : After) (g : Progress) where
  pub refused_noted : (number : ℕ) → number ≢ 0 → a.sampled.outcome ≡ Refused number
      → ((noted lenient index (turn a) g).answers ≡ g.answers) × ((noted lenient index (turn a) g).accepted ≡ g.accepted)
  refused_noted number some e = rw e (refl, simp (ne_eqb number 0 some))

  pub taken_noted : (left right : ℕ) → a.sampled.outcome ≡ Taken left right
      → ((noted lenient index (turn a) g).answers ≡ put_answer (put_answer g.answers (index * 2) left) (index * 2 + 1) right)
      × ((noted lenient index (turn a) g).accepted ≡ g.accepted + 1)
  taken_noted left right e = rw e (refl, refl)

-- what a run hands back of where it ended
pub handed_back_lem : (e : Ended) → ((ran_of e).state ≡ e.progress.state) × ((ran_of e).accepted ≡ e.progress.accepted) × ((ran_of e).index ≡ e.index) × ((ran_of e).refusal ≡ e.refusal)
handed_back_lem e = (refl, refl, refl, refl)

pub six_bytes : (index left right : ℕ) (room : List ℕ) → let at = index * 6 in
    answers_after (Taken left right) index room
    ≡ set (set (set (set (set (set room at (left / 65536 % 256)) (at + 1) (left / 256 % 256)) (at + 2) (left % 256))
    (at + 3) (right / 65536 % 256)) (at + 4) (right / 256 % 256)) (at + 5) (right % 256)
unfolding put_answer
six_bytes index left right room =
    let at : index * 2 * 3 ≡ index * 6 = omega arith in
    let fourth : (index * 2 + 1) * 3 ≡ index * 6 + 3 = omega arith in
    let fifth : index * 6 + 3 + 1 ≡ index * 6 + 4 = omega arith in
    let sixth : index * 6 + 3 + 2 ≡ index * 6 + 5 = omega arith in
    rw (fourth, fifth, sixth, at) refl

-- the mark at an index is the number of the sample there, in the state that the samples before it left
pub mark_told : (part : Part) (u v : List ℕ) (i : ℕ) (g : Progress) → length u ≡ i * 8 → 8 ≤ length v → i < length g.marks
    → get_or (worked true part (u ++ v) g).progress.marks i 0
    ≡ pair_refusal part (two (word_at v 0) (word_at v 4)) (worked true part u g).progress.state
unfolding worked
mark_told part u v i g e more room =
    trace.mark_told samples_cut (turned part) u v i e g more room
    ∙ (step_numbered part (two (word_at v 0) (word_at v 4)) _ (worked true part u g).progress.memory).told
