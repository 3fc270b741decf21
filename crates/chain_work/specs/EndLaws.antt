-- What is turned away, on a run of a chain: it ends at a refused record, with its index and number, or past the whole records, with 4 where bytes are
-- left over. A lenient run goes to the end and marks each record with its number. And a trace may be worked in parts.
use Rattle.std.specs.Prelude.{ℕ, ◌+◌, ◌*◌, ◌/◌, ◌%◌, ◌≤◌, ◌<◌, Bool, true, List, ◌++◌, ◌≢◌, ◌≡◌, refl, get_or, length}
use Rattle.std.proofs.Common.{◌∙◌, get_or-append-add, ne_eqb, arith}
use Rattle.std.proofs.Math.ListN.{get_or-append}
use Rattle.counts.specs.declared.part.Part.{Part}
use Rattle.fifo.specs.Outcome.{Outcome, Refused, Taken}
use Rattle.fifo.specs.Sample.{answers_after}
use Rattle.links.specs.declared.record.Links.{Links}
use Rattle.links.specs.Record.{links_of}
use Rattle.notes.specs.Fold.{ended, folded, noted}
use Rattle.notes.specs.FoldLaws.{fold_moved, moved, moved_end, put_after}
use Rattle.notes.specs.TraceLaws as trace
use Rattle.notes.specs.TraceLaws.{Cut}
use Rattle.pins.specs.Answer.{put_answer}
use Rattle.pins.specs.TraceLaws.{items_split, word_first, word_second}
use Rattle.chain_work.specs.Records.{links_at, more_at, records_from, whole_records}
use Rattle.chain_work.specs.RecordsLaws.{end_told}
use Rattle.rows.specs.Step.{After, chain_refusal, chain_stepped}
use Rattle.rows.specs.StepLaws.{step_told}
use Rattle.chain_work.specs.Work.{Ended, Progress, at_end, turn, turned, worked}

-- three bytes in the first or the second of two parts
module _ (u v : List ℕ) where
  more_first : (at : ℕ) → at + 6 < length u → more_at (u ++ v) at ≡ more_at u at
  more_first at h =
      rw (
        get_or-append u v 0 (at + 4) (omega arith),
        get_or-append u v 0 (at + 5) (omega arith),
        get_or-append u v 0 (at + 6) (omega arith),
      )

  more_second : (at : ℕ) → more_at (u ++ v) (length u + at) ≡ more_at v at
  more_second at =
      let first : length u + at + 4 ≡ length u + (at + 4) = omega arith in
      let second : length u + at + 5 ≡ length u + (at + 5) = omega arith in
      let third : length u + at + 6 ≡ length u + (at + 6) = omega arith in
      rw (third, second, first) (simp get_or-append-add)

-- a trace in two parts, the first of whole records
pub records_split : (u v : List ℕ) (whole : ℕ) → length u ≡ whole * 7 → (many : ℕ)
    → records_from (u ++ v) 0 (whole + many) ≡ records_from u 0 whole ++ records_from v 0 many
records_split u v whole e many =
    items_split (links_at (u ++ v)) (links_at u) (links_at v) whole many
    (λ i h. λ j. links_of (word_first u v (i * 7) (omega arith) j) (more_first u v (i * 7) (omega arith) j))
    (λ i. (let on : (whole + i) * 7 ≡ length u + i * 7 = omega arith in
    rw on (λ j. links_of (word_second u v (i * 7) j) (more_second u v (i * 7) j))))

pub records_cut : Cut 7 links_at at_end
records_cut = record { some = omega arith; ends = end_told; split = records_split }

abbrev pub Ending : Bool → Part → List ℕ → ℕ → Ended → Type 0
Ending lenient part bytes = trace.Ending (λ index row. chain_refusal part (links_at bytes index) row) lenient (length bytes / 7) (length bytes % 7)

pub run_ends : (lenient : Bool) (part : Part) (bytes : List ℕ) (g : Progress) → Ending lenient part bytes g.accepted (worked lenient part bytes g)
unfolding worked
run_ends lenient part = trace.work_ends records_cut (turned part) (chain_refusal part) (λ x row memory. step_told part x row memory) lenient

-- a refused record writes no answer and is not counted; a taken one's answer goes to its own three bytes
module _ (lenient : Bool) (index : ℕ) (a : After) (g : Progress) where
  pub refused_noted : (number : ℕ) → number ≢ 0 → a.outcome ≡ Refused number
      → ((noted lenient index (turn a) g).answers ≡ g.answers) × ((noted lenient index (turn a) g).accepted ≡ g.accepted)
  refused_noted number some e = rw e (refl, simp (ne_eqb number 0 some))

  pub taken_noted : (answer : ℕ) → a.outcome ≡ Taken answer
      → ((noted lenient index (turn a) g).answers ≡ put_answer g.answers index answer) × ((noted lenient index (turn a) g).accepted ≡ g.accepted + 1)
  taken_noted answer e = rw e (refl, refl)

-- the mark at an index is the number of the record there, in the row that the records before it left
pub mark_told : (part : Part) (u v : List ℕ) (i : ℕ) (g : Progress) → length u ≡ i * 7 → 7 ≤ length v → i < length g.marks
    → get_or (worked true part (u ++ v) g).progress.marks i 0 ≡ chain_refusal part (links_at v 0) (worked true part u g).progress.state
unfolding worked
mark_told part u v i g e more room =
    trace.mark_told records_cut (turned part) u v i e g more room ∙ step_told part (links_at v 0) _ (worked true part u g).progress.memory

-- a trace in two parts, split at a whole record and the first taken whole
pub work_split : (lenient : Bool) (part : Part) (u v : List ℕ) (whole : ℕ) → length u ≡ whole * 7 → (g h : Progress)
    → worked lenient part u g ≡ ended 0 whole h
    → worked lenient part (u ++ v) g ≡ folded lenient (turned part) (at_end v) (records_from v 0 (whole_records v)) whole h
unfolding worked
work_split lenient part u v whole e = trace.work_split records_cut (turned part) u v whole e lenient

-- and the rest is what it would be by itself, with index, count and rooms moved on
answers_after_lem : (before : List ℕ) (many : ℕ) → length before ≡ many * 3 → (outcome : Outcome) (index : ℕ) (room : List ℕ)
    → answers_after outcome (many + index) (before ++ room) ≡ before ++ answers_after outcome index room
answers_after_lem before many three (Taken answer) index room = put_after before many three room index answer
answers_after_lem before many three (Refused number) index room = refl

pub work_moved : (part : Part) (before marks : List ℕ) (accepted many : ℕ) → length before ≡ many * 3 → (lenient : Bool) → (lenient ≡ true → length marks ≡ many)
    → (last : ℕ) (xs : List Links) (index : ℕ) (g : Progress)
    → folded lenient (turned part) last xs (many + index) (moved before marks accepted g)
    ≡ moved_end before marks accepted many (folded lenient (turned part) last xs index g)
work_moved part before marks accepted many three lenient one last =
    fold_moved before marks accepted many lenient (turned part) last one
    (λ x row memory. answers_after_lem before many three (chain_stepped part x row memory).outcome)
