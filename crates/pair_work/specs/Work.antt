-- Two parts side by side, on a run: samples in order, answers as they come, and where they end.
use Rattle.std.specs.Prelude.{ℕ, Bool, List}
use Rattle.counts.specs.declared.part.Part.{Part}
use Rattle.halves.specs.declared.state.Halves.{Halves}
use Rattle.halves.specs.Two.{Two}
use Rattle.notes.specs.Fold as fold
use Rattle.notes.specs.Fold.{Stepping, Turn, folded}
use Rattle.pair.specs.Sample.{After, answers_after, number_of, pair_stepped}
use Rattle.pair_work.specs.declared.work.Ran.{Ran}
use Rattle.pair_work.specs.Samples as samples
use Rattle.pair_work.specs.Samples.{sample_at, samples_from, whole_samples}

-- a run of two parts, how far it has come and where it ended
abbrev pub Progress : Type 0
Progress = fold.Progress Halves (Two (List ℕ))

abbrev pub Ended : Type 0
Ended = fold.Ended Halves (Two (List ℕ))

-- what a sample comes to in it
abbrev pub turn : After → Turn Halves (Two (List ℕ))
turn a = record {
  number = number_of a.sampled.outcome;
  state = a.sampled.state;
  memory = a.memory;
  answers = answers_after a.sampled.outcome;
}

abbrev pub turned : Part → Stepping (Two ℕ) Halves (Two (List ℕ))
turned part x h memory = turn (pair_stepped part x h memory)

-- what the end of a trace gives: 4 where bytes are left over
abbrev pub at_end : List ℕ → ℕ
at_end bytes = samples.number_of (sample_at bytes (whole_samples bytes))

-- every sample of a trace, and then its end
unfoldable pub worked : Bool → Part → List ℕ → Progress → Ended
worked lenient part bytes g = folded lenient (turned part) (at_end bytes) (samples_from bytes 0 (whole_samples bytes)) 0 g

abbrev pub ran_of : Ended → Ran
ran_of e = record { state = e.progress.state; accepted = e.progress.accepted; index = e.index; refusal = e.refusal }
