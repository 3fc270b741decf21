-- What the proofs of functions put together, over what the functions called gave: mostly a law for each way out.
use Prim.Native.Nat.{ℕ, ◌+◌, ◌*◌, ◌<◌}
use mathlib.Core.Bool.{Bool, true, false, ◌&&◌}
use mathlib.Core.List.{List}
use mathlib.Core.Path.{◌≡◌, refl, subst, ◌∙◌}
use lib.ListN.{length}
use native.Mathlib.Omega.{arith}
use Rattle.std.specs.Prelude.{ℕ, Option, Some, None}
use Rattle.chip.specs.declared.advance.Put.{Put}
use Rattle.buffers.specs.Verdict.{Refuse, Verdict}
use Rattle.buffers.specs.Memory.{Within, word_size}
use Rattle.buffers.specs.Verdict.{judged, on_record, on_state, roomy}
use Rattle.chip.specs.declared.state.State.{State}
use Rattle.chip.specs.State.{passes}
use Rattle.counts.specs.declared.part.Part.{Part}
use Rattle.counts.specs.Part.{part_of}
use Rattle.spelling.specs.Spelling.{spells, state_in}

module _ (part : Part) (bytes state : List ℕ) {s : State} {spelled passed : Bool} (e : spelled ≡ spells state) (made : s ≡ state_in state) (f : passed ≡ passes part s) where
  as_told : (spelled && passed) ≡ (spells state && passes part (state_in state))
  as_told = rw (← e, ← made, ← f) refl

  pub state_fails : (spelled && passed) ≡ false → Refuse 3 ≡ on_state part bytes state
  unfolding on_state
  state_fails fails = rw (← as_told, fails) refl

  pub state_passes : {v : Verdict} → (spelled && passed) ≡ true → v ≡ on_record part bytes → v ≡ on_state part bytes state
  unfolding on_state
  state_passes holds g = g ∙ rw (← as_told, holds) refl

module _ (number : ℕ) (bytes state : List ℕ) (memory answer : ℕ) {looked : Option Part} (e : looked ≡ part_of number) where
  pub judged_unknown : looked ≡ None → Refuse 1 ≡ judged number bytes state memory answer
  unfolding judged
  judged_unknown u = rw (← e, u) refl

  module _ {part : Part} (known : looked ≡ Some part) {fits : Bool} (f : fits ≡ roomy part (length state) memory answer) where
    pub judged_length : fits ≡ false → Refuse 2 ≡ judged number bytes state memory answer
    unfolding judged
    judged_length fails = rw (← e, known) (rw (← f, fails) refl)

    pub judged_state : {v : Verdict} → fits ≡ true → v ≡ on_state part bytes state → v ≡ judged number bytes state memory answer
    unfolding judged
    judged_state holds g = g ∙ rw (← e, known) (rw (← f, holds) refl)

pub in_reach : {store : Option Put} {put : Put} {at : ℕ} (memory : List ℕ) → store ≡ Some put → at ≡ put.place * word_size → Within store (length memory)
    → at + 3 < length memory
in_reach memory puts found within = let h = subst (λ (o : Option Put). Within o (length memory)) puts within in omega arith
