-- What is turned away, on a run: records in order, answers as they come, and where it ends.
use Rattle.std.specs.Prelude.{ℕ, ◌*◌, Bool, true, false, ◌&&◌, List, [], length}
use Rattle.chip.specs.declared.state.State.{State}
use Rattle.chip.specs.State.{passes}
use Rattle.counts.specs.declared.part.Part.{Part}
use Rattle.fifo.specs.Sample.{After, answers_after, is_depth, number_of, stepped}
use Rattle.notes.specs.Fold as fold
use Rattle.notes.specs.Fold.{Ends, EndsStrict, Stepping, Turn, begun, folded, roomy, started}
use Rattle.pins.specs.Trace.{record_at, records_from, whole_records}
use Rattle.pins.specs.Trace as trace
use Rattle.runs.specs.declared.run.Ran.{Ran}

-- a run of this model, how far it has come and where it ended
abbrev pub Progress : Type 0
Progress = fold.Progress State (List ℕ)

abbrev pub Ended : Type 0
Ended = fold.Ended State (List ℕ)

-- what a sample comes to in it
abbrev pub turn : After → Turn State (List ℕ)
turn a = record {
  number = number_of a.sampled.outcome;
  state = a.sampled.state;
  memory = a.memory;
  answers = answers_after a.sampled.outcome;
}

abbrev pub turned : Part → Stepping ℕ State (List ℕ)
turned part x s memory = turn (stepped part x s memory)

-- what the end of a trace gives: 4 where bytes are left over
abbrev pub at_end : List ℕ → ℕ
at_end bytes = trace.number_of (record_at bytes (whole_records bytes))

-- every record of a trace, and then its end
unfoldable pub worked : Bool → Part → List ℕ → Progress → Ended
worked lenient part bytes g = folded lenient (turned part) (at_end bytes) (records_from bytes 0 (whole_records bytes)) 0 g

-- not refused 2: the memory, and room for three bytes of answer to each whole record
abbrev pub fitting : Bool → List ℕ → Progress → Part → Bool
fitting lenient bytes g part =
    is_depth part (length g.memory) && roomy lenient (whole_records bytes * 3) (whole_records bytes) (length g.answers) (length g.marks)

unfoldable pub run_of : Bool → ℕ → List ℕ → Progress → Ended
run_of lenient number bytes g = begun number (fitting lenient bytes g) (λ part. passes part g.state) (λ part. worked lenient part bytes g) g

abbrev pub ran_of : Ended → Ran
ran_of e = record { state = e.progress.state; accepted = e.progress.accepted; index = e.index; refusal = e.refusal }

abbrev pub Began : Bool → ℕ → List ℕ → State → List ℕ → List ℕ → List ℕ → Ran → List ℕ → List ℕ → List ℕ → Type 0
Began lenient number bytes s memory answers marks r memory' answers' marks' =
    Ends ran_of (run_of lenient number bytes (started s memory answers marks)) r memory' answers' marks'

-- a strict run has no marks
abbrev pub Runs : ℕ → List ℕ → State → List ℕ → List ℕ → Ran → List ℕ → List ℕ → Type 0
Runs number bytes s memory answers = EndsStrict ran_of (run_of false number bytes (started s memory answers []))

abbrev pub RunsLenient : ℕ → List ℕ → State → List ℕ → List ℕ → List ℕ → Ran → List ℕ → List ℕ → List ℕ → Type 0
RunsLenient = Began true
