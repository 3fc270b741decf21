-- What the proofs of a run that is handed its state put together.
use Prim.Native.Nat.{ℕ}
use mathlib.Core.Bool.{Bool, true, false, cond, ◌&&◌, and-eq-true_iff, true≢false}
use mathlib.Core.List.{List, [], ◌∷◌}
use mathlib.Core.Path.{◌≡◌, refl, sym, ◌∙◌}
use lib.Dec.{eqb}
use lib.ListN.{length, set}
use borrow.Author.Tests.{eqb-true}
use native.Mathlib.Omega.{arith}
use Rattle.chip.specs.declared.state.State.{State}
use Rattle.runs.specs.declared.run.Ran.{Ran}
use Rattle.runs.specs.Run as runs
use Rattle.notes.specs.Fold.{EndsStrict, started}
use Rattle.runs.specs.Run.{ran_of, run_of}
use Rattle.spelling.specs.Spelling.{spells, state_bytes, state_in}
use Rattle.handed_c.specs.Handed.{Hands, HandsBack, RunsLenient, RunsStrict, ended_size, ran_handed, sound}

pub both_set : (room : List ℕ) (index accepted : ℕ) → length room ≡ ended_size → set (set room 0 index) 1 accepted ≡ index ∷ accepted ∷ []
both_set [] index accepted e = absurd (omega arith)
both_set (x ∷ []) index accepted e = absurd (omega arith)
both_set (x ∷ y ∷ []) index accepted e = refl
both_set (x ∷ y ∷ z ∷ more) index accepted e = absurd (omega arith)

lengths_by : (state : List ℕ) (ended : ℕ) (fits : Bool) → (eqb (length state) state_bytes && eqb ended ended_size) ≡ fits → cond fits (spells state) false ≡ true
    → (length state ≡ state_bytes) × (ended ≡ ended_size)
lengths_by state ended true e h =
    let both = (and-eq-true_iff (eqb (length state) state_bytes) (eqb ended ended_size)).0 e in (eqb-true _ _ both.0, eqb-true _ _ both.1)
lengths_by state ended false e h = absurd (true≢false (sym h))

module _ (number : ℕ) (bytes state memory answers ended : List ℕ) {told : Bool} (e : told ≡ sound state (length ended)) where
  pub sound_lengths : told ≡ true → (length state ≡ state_bytes) × (length ended ≡ ended_size)
  sound_lengths holds = lengths_by state (length ended) (eqb (length state) state_bytes && eqb (length ended) ended_size) refl (sym e ∙ holds)

  nothing_run : (lenient : Bool) (marks : List ℕ) → told ≡ false → Hands (ran_handed lenient number bytes state memory answers marks ended) 3 state memory answers ended
  unfolding ran_handed
  nothing_run lenient marks fails = rw (← e, fails) (record { result = refl; spelled = refl; words = refl; room = refl; told = refl })

  module _ {s : State} {ran : Ran} {r : ℕ} {state' memory' answers' ended' : List ℕ} (holds : told ≡ true) (read : s ≡ state_in state)
      (back : HandsBack ran state' ended') (code : r ≡ ran.refusal) where
    run_handed : (lenient : Bool) (marks : List ℕ)
        → EndsStrict ran_of (run_of lenient number bytes (started s memory answers marks)) ran memory' answers'
        → Hands (ran_handed lenient number bytes state memory answers marks ended) r state' memory' answers' ended'
    unfolding ran_handed
    run_handed lenient marks h =
        let f = h.result in
        rw (← e, holds, ← read)
        (record { result = code ∙ rw f refl; spelled = back.spelled ∙ rw f refl; words = h.words; room = h.room; told = back.told ∙ rw f refl })

    pub strict_runs : runs.Runs number bytes s memory answers ran memory' answers'
        → RunsStrict number bytes state memory answers ended r state' memory' answers' ended'
    strict_runs = run_handed false []

    pub lenient_runs : (marks : List ℕ) {marks' : List ℕ} → runs.RunsLenient number bytes s memory answers marks ran memory' answers' marks'
        → RunsLenient number bytes state memory answers marks ended r state' memory' answers' marks' ended'
    unfolding ran_handed
    lenient_runs marks h = record { hands = run_handed true marks h.strict; marked = rw (← e, holds, ← read) h.marked }

  pub strict_none : told ≡ false → RunsStrict number bytes state memory answers ended 3 state memory answers ended
  strict_none = nothing_run false []

  pub lenient_none : (marks : List ℕ) → told ≡ false → RunsLenient number bytes state memory answers marks ended 3 state memory answers marks ended
  unfolding ran_handed
  lenient_none marks fails = record { hands = nothing_run true marks fails; marked = rw (← e, fails) refl }
