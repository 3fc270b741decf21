-- Two parts side by side, on a run: 1, 2 and 3 once, and then the samples of its trace.
use Rattle.std.specs.Prelude.{ℕ, ◌*◌, Bool, true, false, ◌&&◌, List, [], length}
use Rattle.counts.specs.declared.part.Part.{Part}
use Rattle.fifo.specs.Sample.{is_depth}
use Rattle.halves.specs.declared.state.Halves.{Halves}
use Rattle.halves.specs.State.{passes_both}
use Rattle.halves.specs.Two.{Two}
use Rattle.notes.specs.Fold.{Ends, EndsStrict, begun, roomy, started}
use Rattle.pair_work.specs.declared.work.Ran.{Ran}
use Rattle.pair_work.specs.Samples.{whole_samples}
use Rattle.pair_work.specs.Work.{Ended, Progress, ran_of, worked}

-- not refused 2: both memories, and room for six bytes of answer to each whole sample
abbrev pub fitting : Bool → List ℕ → Progress → Part → Bool
fitting lenient bytes g part =
    is_depth part (length g.memory.left) && is_depth part (length g.memory.right)
    && roomy lenient (whole_samples bytes * 6) (whole_samples bytes) (length g.answers) (length g.marks)

unfoldable pub run_of : Bool → ℕ → List ℕ → Progress → Ended
run_of lenient number bytes g = begun number (fitting lenient bytes g) (λ part. passes_both part g.state) (λ part. worked lenient part bytes g) g

abbrev pub Began : Bool → ℕ → List ℕ → Halves → Two (List ℕ) → List ℕ → List ℕ → Ran → Two (List ℕ) → List ℕ → List ℕ → Type 0
Began lenient number bytes h memory answers marks = Ends ran_of (run_of lenient number bytes (started h memory answers marks))

-- a strict run has no marks
abbrev pub Runs : ℕ → List ℕ → Halves → Two (List ℕ) → List ℕ → Ran → Two (List ℕ) → List ℕ → Type 0
Runs number bytes h memory answers = EndsStrict ran_of (run_of false number bytes (started h memory answers []))

abbrev pub RunsLenient : ℕ → List ℕ → Halves → Two (List ℕ) → List ℕ → List ℕ → Ran → Two (List ℕ) → List ℕ → List ℕ → Type 0
RunsLenient = Began true
