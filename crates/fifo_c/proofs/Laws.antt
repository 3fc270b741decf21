-- What the proofs of functions put together, over what the functions called gave: mostly a law for each way out.
use Prim.Native.Nat.{ℕ}
use mathlib.Core.List.{List}
use mathlib.Core.Path.{◌≡◌, refl, sym, ap, ◌∙◌}
use lib.ListN.{length}
use borrow.Author.Rules.{rules}
use borrow.Author.Tests.{eq-eqb, ne_eqb}
use Rattle.std.specs.Prelude.{None, Option, Some}
use Rattle.buffers.specs.Verdict.{Refuse, Verdict, Work}
use Rattle.buffers.specs.Memory.{memory_bytes}
use Rattle.buffers.specs.Verdict.{Ready, judged, number_of}
use Rattle.buffers.specs.VerdictLaws.{cleared}
use Rattle.call_work.specs.Work.{Gives, worked}
use Rattle.chip.specs.declared.state.State.{State}
use Rattle.chip.specs.Reset.{powered_up}
use Rattle.counts.specs.declared.part.Part.{Part}
use Rattle.counts.specs.Part.{part_of}
use Rattle.spelling.specs.Spelling.{spelling, state_bytes}
use Rattle.fifo_c.specs.Call.{Calls, PowersUp, by_verdict, called, memory_for, powered}

module _ (number : ℕ) (bytes state memory answer : List ℕ) {v : Verdict} (e : v ≡ judged number bytes state (length memory) (length answer)) where
  called_as : called number bytes state memory answer ≡ by_verdict v state memory answer
  unfolding called
  called_as = rw (← e) refl

  pub calls_refused : {refusal r : ℕ} → v ≡ Refuse refusal → r ≡ number_of v → Calls number bytes state memory answer r state memory answer
  calls_refused refuses told = rw (called_as, refuses) (record { result = told ∙ ap number_of refuses; spelled = refl; words = refl; room = refl })

  pub calls_worked : {part : Part} {x r : ℕ} {state' memory' answer' : List ℕ} → v ≡ Work part x
      → Gives (worked part x state memory answer) r state' memory' answer' → Calls number bytes state memory answer r state' memory' answer'
  calls_worked works gives = rw (called_as, works) gives

  pub work_may : {part : Part} {x : ℕ} → v ≡ Work part x → Ready part state (length memory) (length answer)
  work_may {part = part} {x = x} works = (cleared number bytes state (length memory) (length answer) part x (sym e ∙ works)).ready

module _ (number : ℕ) {looked : Option Part} (e : looked ≡ part_of number) where
  pub memory_known : {part : Part} {r : ℕ} → looked ≡ Some part → r ≡ memory_bytes part → r ≡ memory_for number
  memory_known known f = f ∙ rw (← e, known) refl

  pub memory_unknown : looked ≡ None → 0 ≡ memory_for number
  memory_unknown unknown = rw (← e, unknown) refl

module _ (state : List ℕ) where
  pub powers_up : {s : State} {state' : List ℕ} → length state ≡ state_bytes → s ≡ powered_up → state' ≡ spelling s → PowersUp state 0 state'
  unfolding powered
  powers_up room made spelled =
      let fits = eq-eqb (length state) state_bytes room in
      let code : 0 ≡ (powered state).code = simp fits in
      let bytes = spelled ∙ ap spelling made in
      let same : spelling powered_up ≡ (powered state).state = simp fits in
      let after = bytes ∙ same in
      search rules

  pub powers_up_refused : (length state ≡ state_bytes → ⊥) → PowersUp state 2 state
  unfolding powered
  powers_up_refused short =
      let fails = ne_eqb (length state) state_bytes short in
      let code : 2 ≡ (powered state).code = simp fails in
      let same : state ≡ (powered state).state = simp fails in
      search rules
