-- Order 4, on a run: records in order, answers as they come, and where they end.
use Rattle.std.specs.Prelude.{ℕ, Bool, List}
use Rattle.counts.specs.declared.part.Part.{Part}
use Rattle.fifo.specs.Sample.{answers_after, number_of}
use Rattle.links.specs.declared.record.Links.{Links}
use Rattle.notes.specs.Fold as fold
use Rattle.notes.specs.Fold.{Stepping, Turn, folded}
use Rattle.rows.specs.declared.row.Row.{Row}
use Rattle.chain_work.specs.declared.work.Ran.{Ran}
use Rattle.chain_work.specs.Records as records
use Rattle.chain_work.specs.Records.{record_at, records_from, whole_records}
use Rattle.rows.specs.Step.{After, chain_stepped}

-- a run of a chain, how far it has come and where it ended
abbrev pub Progress : Type 0
Progress = fold.Progress Row (List ℕ)

abbrev pub Ended : Type 0
Ended = fold.Ended Row (List ℕ)

-- what a record comes to in it
abbrev pub turn : After → Turn Row (List ℕ)
turn a = record { number = number_of a.outcome; state = a.row; memory = a.memory; answers = answers_after a.outcome }

abbrev pub turned : Part → Stepping Links Row (List ℕ)
turned part x row memory = turn (chain_stepped part x row memory)

-- what the end of a trace gives: 4 where bytes are left over
abbrev pub at_end : List ℕ → ℕ
at_end bytes = records.number_of (record_at bytes (whole_records bytes))

-- every record of a trace, and then its end
unfoldable pub worked : Bool → Part → List ℕ → Progress → Ended
worked lenient part bytes g = folded lenient (turned part) (at_end bytes) (records_from bytes 0 (whole_records bytes)) 0 g

abbrev pub ran_of : Ended → Ran
ran_of e = record { row = e.progress.state; accepted = e.progress.accepted; index = e.index; refusal = e.refusal }
