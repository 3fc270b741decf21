-- What is turned away, on a run of two parts, strict or lenient: 1, 2 and 3 before any sample and with index 0. Part numbers, depths and room
-- stand in plain figures, so that a definition that says another is refused here.
use Rattle.std.specs.Prelude.{ℕ, ◌*◌, ◌/◌, ◌≤◌, Bool, true, false, ◌&&◌, List, ◌≢◌, ◌≡◌, refl}
use Rattle.std.proofs.Math.Path.{sym}
use Rattle.std.proofs.Common.{◌∙◌}
use Rattle.std.proofs.Math.ListN.{length}
use borrow.Author.Tests.{eqb-true}
use Rattle.counts.specs.declared.part.Part.{Part}
use Rattle.counts.specs.Part.{depth_of}
use Rattle.fifo.specs.NumberLaws.{asked_by, deep, known, same_depth, words_in}
use Rattle.fifo.specs.Sample.{is_depth}
use Rattle.notes.specs.BeginLaws as begin
use Rattle.notes.specs.BeginLaws.{Begins, begins}
use Rattle.notes.specs.Fold.{ended}
use Rattle.halves.specs.State.{passes_both}
use Rattle.pair_work.specs.Work.{Progress, worked}
use Rattle.pair_runs.specs.Run.{fitting, run_of}

either_fails : {A B : Type 0} (a b : Bool) → (a ≡ true → A) → (b ≡ true → B) → ¬ (A × B) → a && b ≡ false
either_fails true true f g n = absurd (n (f refl, g refl))
either_fails true false f g n = refl
either_fails false b f g n = refl

module _ (lenient : Bool) (bytes : List ℕ) (g : Progress) where
  pub one_comes : (number : ℕ) → number ≢ 255 → number ≢ 265 → run_of lenient number bytes g ≡ ended 1 0 g
  unfolding run_of
  one_comes number = begin.one_comes number _ _ _ g

  module _ (part : Part) where
    abbrev Sized : Type 0
    Sized = (length g.memory.left ≡ words_in part) × (length g.memory.right ≡ words_in part)

    pub run_begins :
        Begins lenient Sized (length bytes / 8 * 6) (length bytes / 8) (passes_both part g.state)
        (run_of lenient (asked_by part) bytes g) (worked lenient part bytes g) g
    unfolding run_of
    run_begins =
        let left = length g.memory.left in
        let right = length g.memory.right in
        begins lenient (length bytes / 8 * 6) (length bytes / 8) (λ p. is_depth p left && is_depth p right) (λ p. passes_both p g.state)
        (λ p. worked lenient p bytes g) g (asked_by part) part (known part)
        (λ s. simp (deep part left s.0, deep part right s.1))
        (either_fails (is_depth part left) (is_depth part right)
        (λ d. eqb-true left (depth_of part) d ∙ sym (same_depth part)) (λ d. eqb-true right (depth_of part) d ∙ sym (same_depth part)))

    -- 2 by either memory alone
    pub two_by_left : length g.memory.left ≢ words_in part → run_of lenient (asked_by part) bytes g ≡ ended 2 0 g
    two_by_left n = run_begins.two_by_memory (λ s. n s.0)

    pub two_by_right : length g.memory.right ≢ words_in part → run_of lenient (asked_by part) bytes g ≡ ended 2 0 g
    two_by_right n = run_begins.two_by_memory (λ s. n s.1)

    -- not refused 2: there is room
    pub room_told : fitting lenient bytes g part ≡ true → length bytes / 8 * 6 ≤ length g.answers
    room_told =
        begin.room_told (is_depth part (length g.memory.left) && is_depth part (length g.memory.right)) lenient
        (length bytes / 8 * 6) (length bytes / 8) (length g.answers) (length g.marks)
