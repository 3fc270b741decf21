-- What counts as an answer proved: two outcomes that meet a run's promise are the same in result, in both memories and in every room lent.
use Rattle.std.specs.Prelude.{ℕ, true, false, List, [], ◌≡◌}
use Rattle.notes.specs.Unique as notes
use Rattle.halves.specs.declared.state.Halves.{Halves}
use Rattle.halves.specs.Two.{Two}
use Rattle.pair_work.specs.declared.work.Ran.{Ran}
use Rattle.notes.specs.Fold.{started}
use Rattle.pair_work.specs.Work.{ran_of}
use Rattle.pair_runs.specs.Run.{Runs, RunsLenient, run_of}

pub run_unique : (number : ℕ) (bytes : List ℕ) (h : Halves) (memory : Two (List ℕ)) (answers : List ℕ) (a b : Ran) (m n : Two (List ℕ)) (k l : List ℕ)
    → Runs number bytes h memory answers a m k → Runs number bytes h memory answers b n l → (a ≡ b) × (m ≡ n) × (k ≡ l)
run_unique number bytes h memory answers a b m n k l = notes.strict_unique

pub lenient_unique : (number : ℕ) (bytes : List ℕ) (h : Halves) (memory : Two (List ℕ)) (answers marks : List ℕ) (a b : Ran) (m n : Two (List ℕ)) (k l i j : List ℕ)
    → RunsLenient number bytes h memory answers marks a m k i → RunsLenient number bytes h memory answers marks b n l j
    → (a ≡ b) × (m ≡ n) × (k ≡ l) × (i ≡ j)
lenient_unique number bytes h memory answers marks a b m n k l i j = notes.ends_unique

-- and they are those of the strict and of the lenient run
pub run_told : (number : ℕ) (bytes : List ℕ) (h : Halves) (memory : Two (List ℕ)) (answers : List ℕ) (r : Ran) (m : Two (List ℕ)) (k : List ℕ)
    → Runs number bytes h memory answers r m k → r ≡ ran_of (run_of false number bytes (started h memory answers []))
run_told number bytes h memory answers r m k f = f.result

pub lenient_told : (number : ℕ) (bytes : List ℕ) (h : Halves) (memory : Two (List ℕ)) (answers marks : List ℕ) (r : Ran) (m : Two (List ℕ)) (k i : List ℕ)
    → RunsLenient number bytes h memory answers marks r m k i → let e = run_of true number bytes (started h memory answers marks) in
    (r ≡ ran_of e) × (i ≡ e.progress.marks)
lenient_told number bytes h memory answers marks r m k i f = (f.strict.result, f.marked)
