-- What counts as an answer proved: two outcomes that meet a run's promise are the same in result and in every room lent.
use Rattle.std.specs.Prelude.{ℕ, true, false, List, [], ◌≡◌}
use Rattle.chip.specs.declared.state.State.{State}
use Rattle.notes.specs.Unique as notes
use Rattle.runs.specs.declared.run.Ran.{Ran}
use Rattle.notes.specs.Fold.{started}
use Rattle.runs.specs.Run.{Runs, RunsLenient, ran_of, run_of}

pub run_unique : (number : ℕ) (bytes : List ℕ) (s : State) (memory answers : List ℕ) (a b : Ran) (m n k l : List ℕ)
    → Runs number bytes s memory answers a m k → Runs number bytes s memory answers b n l → (a ≡ b) × (m ≡ n) × (k ≡ l)
run_unique number bytes s memory answers a b m n k l = notes.strict_unique

pub lenient_unique : (number : ℕ) (bytes : List ℕ) (s : State) (memory answers marks : List ℕ) (a b : Ran) (m n k l i j : List ℕ)
    → RunsLenient number bytes s memory answers marks a m k i → RunsLenient number bytes s memory answers marks b n l j
    → (a ≡ b) × (m ≡ n) × (k ≡ l) × (i ≡ j)
lenient_unique number bytes s memory answers marks a b m n k l i j = notes.ends_unique

-- and they are those of the strict and of the lenient run
pub run_told : (number : ℕ) (bytes : List ℕ) (s : State) (memory answers : List ℕ) (r : Ran) (m k : List ℕ) → Runs number bytes s memory answers r m k
    → r ≡ ran_of (run_of false number bytes (started s memory answers []))
run_told number bytes s memory answers r m k f = f.result

pub lenient_told : (number : ℕ) (bytes : List ℕ) (s : State) (memory answers marks : List ℕ) (r : Ran) (m k i : List ℕ)
    → RunsLenient number bytes s memory answers marks r m k i → let e = run_of true number bytes (started s memory answers marks) in
    (r ≡ ran_of e) × (i ≡ e.progress.marks)
lenient_told number bytes s memory answers marks r m k i f = (f.strict.result, f.marked)
