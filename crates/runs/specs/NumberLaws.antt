-- What is turned away, on a run, strict or lenient: 1, 2 and 3 before any record and with index 0. Part numbers, depths and room stand in
-- plain figures, so that a definition that says another is refused here.
use Rattle.std.specs.Prelude.{ℕ, ◌*◌, ◌/◌, ◌≤◌, Bool, true, List, ◌≢◌, ◌≡◌, length}
use Rattle.chip.specs.State.{passes}
use Rattle.counts.specs.declared.part.Part.{Part}
use Rattle.fifo.specs.NumberLaws.{asked_by, deep, known, not_deep, words_in}
use Rattle.fifo.specs.Sample.{is_depth}
use Rattle.notes.specs.BeginLaws as begin
use Rattle.notes.specs.BeginLaws.{Begins, begins}
use Rattle.notes.specs.Fold.{ended}
use Rattle.runs.specs.Run.{Progress, fitting, run_of, worked}

module _ (lenient : Bool) (bytes : List ℕ) (g : Progress) where
  pub one_comes : (number : ℕ) → number ≢ 255 → number ≢ 265 → run_of lenient number bytes g ≡ ended 1 0 g
  unfolding run_of
  one_comes number = begin.one_comes number _ _ _ g

  pub run_begins : (part : Part)
      → Begins lenient (length g.memory ≡ words_in part) (length bytes / 4 * 3) (length bytes / 4) (passes part g.state)
      (run_of lenient (asked_by part) bytes g) (worked lenient part bytes g) g
  unfolding run_of
  run_begins part =
      begins lenient (length bytes / 4 * 3) (length bytes / 4) (λ p. is_depth p (length g.memory)) (λ p. passes p g.state)
      (λ p. worked lenient p bytes g) g (asked_by part) part (known part) (deep part (length g.memory)) (not_deep part (length g.memory))

  -- not refused 2: there is room
  pub room_told : (part : Part) → fitting lenient bytes g part ≡ true → length bytes / 4 * 3 ≤ length g.answers
  room_told part =
      begin.room_told (is_depth part (length g.memory)) lenient (length bytes / 4 * 3) (length bytes / 4) (length g.answers) (length g.marks)
