-- Order 4, on a run: 1, 13, 2 and 3 once, and then the records of its trace.
use Rattle.std.specs.Prelude.{ℕ, ◌*◌, Bool, List, length}
use Rattle.rows.specs.declared.row.Row.{Row}
use Rattle.chain_work.specs.declared.work.Ran.{Ran}
use Rattle.chain_work.specs.Records.{whole_records}
use Rattle.chain_work.specs.Work.{Ended, Progress, ran_of, worked}
use Rattle.notes.specs.Fold.{Ends, ended, roomy, started}
use Rattle.chain_runs.specs.declared.run.Report.{Report}
use Rattle.chain_runs.specs.Test.{by_test, test_of}

-- room for three bytes of answer to each whole record and, in a lenient run, for a mark
abbrev pub roomy_for : Bool → List ℕ → Progress → Bool
roomy_for lenient bytes g = roomy lenient (whole_records bytes * 3) (whole_records bytes) (length g.answers) (length g.marks)

unfoldable pub run_of : Bool → ℕ → List ℕ → Progress → Ended
run_of lenient number bytes g =
    by_test (test_of number g.state (length g.memory) (roomy_for lenient bytes g))
    (λ part. worked lenient part bytes g)
    (λ refused. ended refused 0 g)

abbrev pub RunsRow : Bool → ℕ → List ℕ → Row → List ℕ → List ℕ → List ℕ → Ran → List ℕ → List ℕ → List ℕ → Type 0
RunsRow lenient number bytes row memory answers marks = Ends ran_of (run_of lenient number bytes (started row memory answers marks))

abbrev pub report_of : Ran → Report
report_of ran = record { accepted = ran.accepted; index = ran.index; refusal = ran.refusal }
