-- A trace may be worked in parts, and, as long as every state on the way passes 3, sample by sample.
use Rattle.std.specs.Prelude.{ℕ, ◌+◌, ◌*◌, Bool, true, List, ◌++◌, ◌≡◌, refl, length, Some}
use Rattle.std.proofs.Common.{ap, arith}
use Rattle.chip.specs.declared.state.State.{State}
use Rattle.chip.specs.State.{passes}
use Rattle.counts.specs.declared.part.Part.{Part}
use Rattle.counts.specs.Part.{part_of}
use Rattle.fifo.specs.Outcome.{Outcome, Refused, Taken}
use Rattle.fifo.specs.Sample.{answers_after, is_depth, sampled, stepped}
use Rattle.fifo.specs.SampleLaws.{sample_is_step, step_length}
use Rattle.notes.specs.Fold.{ended, folded}
use Rattle.notes.specs.FoldLaws.{Along, fold_moved, moved, moved_end, put_after, same_steps}
use Rattle.notes.specs.TraceLaws as trace
use Rattle.notes.specs.TraceLaws.{Cut}
use Rattle.pins.specs.Trace.{records_from, whole_records, word_at}
use Rattle.pins.specs.TraceLaws.{end_told, records_split}
use Rattle.runs.specs.Run.{Progress, at_end, turn, turned, worked}

-- every state on the way passes 3
abbrev pub Passing : Part → List ℕ → State → List ℕ → Type 0
Passing part = Along (turned part) (λ s. passes part s ≡ true)

pub sample_by_sample : (lenient : Bool) (number : ℕ) (part : Part) → part_of number ≡ Some part → (last : ℕ) (xs : List ℕ) (index : ℕ) (g : Progress)
    → is_depth part (length g.memory) ≡ true → Passing part xs g.state g.memory
    → folded lenient (turned part) last xs index g ≡ folded lenient (λ x s memory. turn (sampled number x s memory)) last xs index g
sample_by_sample lenient number part k =
    same_steps lenient (turned part) (λ x s memory. turn (sampled number x s memory)) (λ s. passes part s ≡ true) (λ memory. is_depth part (length memory) ≡ true)
    (λ x s memory d. rw (step_length part x s memory) d) (λ x s memory p d. ap turn (sample_is_step number x s memory part k d p))

-- the records of a trace, four bytes each
pub records_cut : Cut 4 (λ bytes index. word_at bytes (index * 4)) at_end
records_cut = record { some = omega arith; ends = end_told; split = records_split }

-- a trace in two parts, split at a whole record and the first taken whole
pub work_split : (lenient : Bool) (part : Part) (u v : List ℕ) (whole : ℕ) → length u ≡ whole * 4 → (g h : Progress)
    → worked lenient part u g ≡ ended 0 whole h
    → worked lenient part (u ++ v) g ≡ folded lenient (turned part) (at_end v) (records_from v 0 (whole_records v)) whole h
unfolding worked
work_split lenient part u v whole e = trace.work_split records_cut (turned part) u v whole e lenient

-- and the rest is what it would be by itself, with index, count and rooms moved on
answers_after_lem : (before : List ℕ) (many : ℕ) → length before ≡ many * 3 → (outcome : Outcome) (index : ℕ) (room : List ℕ)
    → answers_after outcome (many + index) (before ++ room) ≡ before ++ answers_after outcome index room
answers_after_lem before many three (Taken answer) index room = put_after before many three room index answer
answers_after_lem before many three (Refused number) index room = refl

pub work_moved : (part : Part) (before marks : List ℕ) (accepted many : ℕ) → length before ≡ many * 3 → (lenient : Bool) → (lenient ≡ true → length marks ≡ many)
    → (last : ℕ) (xs : List ℕ) (index : ℕ) (g : Progress)
    → folded lenient (turned part) last xs (many + index) (moved before marks accepted g)
    ≡ moved_end before marks accepted many (folded lenient (turned part) last xs index g)
work_moved part before marks accepted many three lenient one last =
    fold_moved before marks accepted many lenient (turned part) last one
    (λ x s memory. answers_after_lem before many three (stepped part x s memory).sampled.outcome)
