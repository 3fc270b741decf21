-- A trace may be worked in parts, and, as long as every state on the way passes 3, sample by sample.
use Rattle.std.specs.Prelude.{ℕ, ◌+◌, ◌*◌, Bool, true, ◌&&◌, List, ◌++◌, ◌≡◌, refl, length, Some}
use Rattle.std.proofs.Common.{ap, arith}
use Rattle.counts.specs.declared.part.Part.{Part}
use Rattle.counts.specs.Part.{part_of}
use Rattle.fifo.specs.Sample.{is_depth}
use Rattle.notes.specs.Fold.{ended, folded}
use Rattle.notes.specs.FoldLaws.{Along, fold_moved, moved, moved_end, put_after, same_steps}
use Rattle.notes.specs.TraceLaws as trace
use Rattle.notes.specs.TraceLaws.{Cut}
use Rattle.pair.specs.Outcome.{Outcome, Refused, Taken}
use Rattle.halves.specs.declared.state.Halves.{Halves}
use Rattle.pair.specs.Sample.{answers_after, pair_sampled, pair_stepped}
use Rattle.pair.specs.SampleLaws.{sample_is_step, step_lengths}
use Rattle.halves.specs.State.{passes_both}
use Rattle.halves.specs.Two.{Two}
use Rattle.pair_work.specs.Work.{Progress, at_end, turn, turned, worked}
use Rattle.pair_work.specs.Samples.{records_at, samples_from, whole_samples}
use Rattle.pair_work.specs.SamplesLaws.{end_told, samples_split}

-- every state on the way passes 3
abbrev pub Passing : Part → List (Two ℕ) → Halves → Two (List ℕ) → Type 0
Passing part = Along (turned part) (λ h. passes_both part h ≡ true)

abbrev are_depth : Part → Two (List ℕ) → Bool
are_depth part memory = is_depth part (length memory.left) && is_depth part (length memory.right)

pub sample_by_sample : (lenient : Bool) (number : ℕ) (part : Part) → part_of number ≡ Some part
    → (last : ℕ) (xs : List (Two ℕ)) (index : ℕ) (g : Progress) → are_depth part g.memory ≡ true → Passing part xs g.state g.memory
    → folded lenient (turned part) last xs index g ≡ folded lenient (λ x h memory. turn (pair_sampled number x h memory)) last xs index g
sample_by_sample lenient number part k =
    same_steps lenient (turned part) (λ x h memory. turn (pair_sampled number x h memory)) (λ h. passes_both part h ≡ true) (λ memory. are_depth part memory ≡ true)
    (λ x h memory d. (let same = step_lengths part x h memory in rw (same.0, same.1) d))
    (λ x h memory p d. ap turn (sample_is_step number x h memory part k d p))

-- the samples of a trace, eight bytes each
pub samples_cut : Cut 8 records_at at_end
samples_cut = record { some = omega arith; ends = end_told; split = samples_split }

-- a trace in two parts, split at a whole sample and the first taken whole
pub work_split : (lenient : Bool) (part : Part) (u v : List ℕ) (whole : ℕ) → length u ≡ whole * 8 → (g h : Progress)
    → worked lenient part u g ≡ ended 0 whole h
    → worked lenient part (u ++ v) g ≡ folded lenient (turned part) (at_end v) (samples_from v 0 (whole_samples v)) whole h
unfolding worked
work_split lenient part u v whole e = trace.work_split samples_cut (turned part) u v whole e lenient

-- and the rest is what it would be by itself, with index, count and rooms moved on
answers_after_lem : (before : List ℕ) (many : ℕ) → length before ≡ many * 6 → (outcome : Outcome) (index : ℕ) (room : List ℕ)
    → answers_after outcome (many + index) (before ++ room) ≡ before ++ answers_after outcome index room
answers_after_lem before many six (Taken left right) index room =
    let threes : length before ≡ many * 2 * 3 = omega arith in
    let at_left : (many + index) * 2 ≡ many * 2 + index * 2 = omega arith in
    let at_right : (many + index) * 2 + 1 ≡ many * 2 + (index * 2 + 1) = omega arith in
    rw (at_right, at_left, put_after before (many * 2) threes room (index * 2) left)
    (put_after before (many * 2) threes _ (index * 2 + 1) right)
answers_after_lem before many six (Refused number) index room = refl

pub work_moved : (part : Part) (before marks : List ℕ) (accepted many : ℕ) → length before ≡ many * 6 → (lenient : Bool) → (lenient ≡ true → length marks ≡ many)
    → (last : ℕ) (xs : List (Two ℕ)) (index : ℕ) (g : Progress)
    → folded lenient (turned part) last xs (many + index) (moved before marks accepted g)
    ≡ moved_end before marks accepted many (folded lenient (turned part) last xs index g)
work_moved part before marks accepted many six lenient one last =
    fold_moved before marks accepted many lenient (turned part) last one
    (λ x h memory. answers_after_lem before many six (pair_stepped part x h memory).sampled.outcome)
