-- How a run of two parts begins, in the words of the code.
use Prim.Native.Nat.{ℕ}
use mathlib.Core.Bool.{Bool, true, false}
use mathlib.Core.List.{List}
use mathlib.Core.Path.{◌≡◌}
use Rattle.std.specs.Prelude.{None, Option, Some}
use Rattle.counts.specs.declared.part.Part.{Part}
use Rattle.counts.specs.Part.{part_of}
use Rattle.halves.specs.State.{passes_both}
use Rattle.notes.specs.BeginLaws as begin
use Rattle.notes.specs.Fold.{ended}
use Rattle.pair_work.specs.Work.{Progress, worked}
use Rattle.pair_runs.specs.Run.{fitting, run_of}

module _ (lenient : Bool) (number : ℕ) (bytes : List ℕ) (g : Progress) {looked : Option Part} (l : looked ≡ part_of number) where
  pub run_unknown : looked ≡ None → run_of lenient number bytes g ≡ ended 1 0 g
  unfolding run_of
  run_unknown = begin.begun_unknown number _ _ _ g l

  module _ (part : Part) (k : looked ≡ Some part) where
    pub run_room : fitting lenient bytes g part ≡ false → run_of lenient number bytes g ≡ ended 2 0 g
    unfolding run_of
    run_room = begin.begun_room number _ _ _ g l part k

    pub run_state : fitting lenient bytes g part ≡ true → passes_both part g.state ≡ false → run_of lenient number bytes g ≡ ended 3 0 g
    unfolding run_of
    run_state = begin.begun_state number _ _ _ g l part k

    pub run_works : fitting lenient bytes g part ≡ true → passes_both part g.state ≡ true → run_of lenient number bytes g ≡ worked lenient part bytes g
    unfolding run_of
    run_works = begin.begun_works number _ _ _ g l part k
