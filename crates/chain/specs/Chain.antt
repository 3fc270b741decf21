-- Order 4: one sample and a run over the list of part states. The list is worked as a row, which is filled from it and put back.
use Rattle.std.specs.Prelude.{ℕ, Bool, List, ◌≡◌}
use Rattle.chain_runs.specs.declared.run.Report.{Report}
use Rattle.chain_runs.specs.Run.{report_of, run_of}
use Rattle.chain_runs.specs.Sample.{row_sampled}
use Rattle.rows.specs.Row.{put_back, row_of}
use Rattle.rows.specs.Step.{After}
use Rattle.chain_work.specs.Work.{Ended, ran_of}
use Rattle.chip.specs.declared.state.State.{State}
use Rattle.fifo.specs.Outcome.{Outcome}
use Rattle.notes.specs.Fold.{started}

abbrev pub sampled : ℕ → List ℕ → List State → List ℕ → After
sampled number bytes states memory = row_sampled number bytes (row_of states) memory

pub record Samples (number : ℕ) (bytes : List ℕ) (states : List State) (memory : List ℕ) (r : Outcome) (after : List State) (left : List ℕ) : Type 0 where
  pub result : r ≡ (sampled number bytes states memory).outcome
  pub parts : after ≡ put_back (sampled number bytes states memory).row states
  pub words : left ≡ (sampled number bytes states memory).memory

abbrev pub ran : Bool → ℕ → List ℕ → List State → List ℕ → List ℕ → List ℕ → Ended
ran lenient number bytes states memory answers marks = run_of lenient number bytes (started (row_of states) memory answers marks)

pub record Runs (lenient : Bool) (number : ℕ) (bytes : List ℕ) (states : List State) (memory answers marks : List ℕ) (r : Report) (after : List State)
    (left written noted : List ℕ) : Type 0 where
  pub result : r ≡ report_of (ran_of (ran lenient number bytes states memory answers marks))
  pub parts : after ≡ put_back (ran lenient number bytes states memory answers marks).progress.state states
  pub words : left ≡ (ran lenient number bytes states memory answers marks).progress.memory
  pub room : written ≡ (ran lenient number bytes states memory answers marks).progress.answers
  pub marked : noted ≡ (ran lenient number bytes states memory answers marks).progress.marks
