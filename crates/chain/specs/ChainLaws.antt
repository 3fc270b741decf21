-- Order 4: the promises over the list of states, from those over a row.
use Rattle.std.specs.Prelude.{ℕ, Bool, List, ◌≡◌}
use Rattle.std.proofs.Common.{ap, ◌∙◌}
use Rattle.chain_runs.specs.declared.run.Report.{Report}
use Rattle.chain_runs.specs.Outcome.{Worked}
use Rattle.chain_runs.specs.Run.{RunsRow, report_of}
use Rattle.chain_runs.specs.Sample.{SamplesRow}
use Rattle.rows.specs.declared.row.Row.{Row}
use Rattle.chain_work.specs.declared.work.Ran.{Ran}
use Rattle.rows.specs.Row.{put_back, row_of}
use Rattle.chip.specs.declared.state.State.{State}
use Rattle.fifo.specs.Outcome.{Outcome}
use Rattle.chain.specs.Chain.{Runs, Samples}

pub samples : (number : ℕ) (bytes : List ℕ) (states : List State) (memory : List ℕ) {a : Worked} {words : List ℕ} → SamplesRow number bytes (row_of states) memory a words
    → {row : Row} → row ≡ a.row → {after : List State} → after ≡ put_back row states → {r : Outcome} → r ≡ a.outcome → Samples number bytes states memory r after words
samples number bytes states memory g e f h = record {
  result = h ∙ g.outcome;
  parts = f ∙ ap (λ (row : Row). put_back row states) (e ∙ g.row);
  words = g.words;
}

pub runs : (lenient : Bool) (number : ℕ) (bytes : List ℕ) (states : List State) (memory answers marks : List ℕ) {a : Ran} {words room noted : List ℕ}
    → RunsRow lenient number bytes (row_of states) memory answers marks a words room noted → {row : Row} → row ≡ a.row → {after : List State} → after ≡ put_back row states
    → {r : Report} → r ≡ report_of a → Runs lenient number bytes states memory answers marks r after words room noted
runs lenient number bytes states memory answers marks g e f h = record {
  result = h ∙ ap report_of g.strict.result;
  parts = f ∙ ap (λ (row : Row). put_back row states) (e ∙ ap (λ (a : Ran). a.row) g.strict.result);
  words = g.strict.words;
  room = g.strict.room;
  marked = g.marked;
}
