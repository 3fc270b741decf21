-- What the proofs of functions put together, over what the functions called gave: mostly a law for each way out.
use Prim.Native.Nat.{ℕ, ◌*◌}
use mathlib.Core.Bool.{Bool, true}
use mathlib.Core.List.{List}
use mathlib.Core.Path.{◌≡◌, refl, sym, ap, ◌∙◌}
use lib.ListN.{length}
use borrow.Author.Tests.{ne_eqb}
use Rattle.buffers.specs.Memory.{Within, memory_bytes, stored_in, word_size}
use Rattle.buffers.specs.VerdictLaws.{store_within}
use Rattle.chip.specs.declared.advance.Advanced.{Advanced}
use Rattle.chip.specs.declared.enables.Enables.{Enables}
use Rattle.chip.specs.declared.state.State.{State}
use Rattle.chip.specs.Advance.{advanced, store_of}
use Rattle.chip.specs.Answer.{answer_of}
use Rattle.chip.specs.Laws.{store_placed}
use Rattle.chip.specs.Enables.{enables_after}
use Rattle.chip.specs.Quiet.{held}
use Rattle.chip.specs.QuietLaws.{quiet_advanced}
use Rattle.counts.specs.declared.part.Part.{Part}
use Rattle.counts.specs.Part.{depth_of}
use Rattle.counts.specs.Round.{place_of}
use Rattle.fifo.specs.Sample.{record_refusal}
use Rattle.fifo.specs.Still.{still}
use Rattle.fifo.specs.StillLaws.{still_free, still_quiet}
use Rattle.pins.specs.declared.record.Pins.{Pins}
use Rattle.pins.specs.Answer.{put_answer}
use Rattle.pins.specs.Record.{pins_of}
use Rattle.pins.specs.Trace.{word_at}
use Rattle.spelling.specs.Spelling.{put_remembered, spelling, spells, state_bytes, state_in}
use Rattle.spelling.specs.SpellingLaws.{Bytes, remembered_put, written_back}
use Rattle.call_work.specs.Work.{Gives, taken, took, worked}

module _ (part : Part) (x : ℕ) (state memory answer : List ℕ) {s : State} (read : s ≡ state_in state) {p : Pins} (decoded : p ≡ pins_of x) {place word : ℕ}
    (found : place ≡ place_of (depth_of part) s.read.count.0) (fetched : word ≡ word_at memory (place * word_size))
    {a : Advanced} (moved : a ≡ advanced part p word s) where
  as_taken : took a memory answer ≡ taken part x (state_in state) memory answer
  unfolding taken
  as_taken = rw (moved, decoded, fetched, found, read) refl

  pub store_in_memory : length memory ≡ memory_bytes part → Within a.store (length memory)
  unfolding advanced
  store_in_memory e = rw moved (store_within part (store_of part p s) (length memory) e (store_placed part p s))

  pub takes : {state' memory' answer' : List ℕ} → state' ≡ spelling a.state → memory' ≡ stored_in a.store memory → answer' ≡ put_answer answer 0 a.answer
      → Gives (taken part x (state_in state) memory answer) 0 state' memory' answer'
  takes e f g = rw (← as_taken) (record { result = refl; spelled = e; words = f; room = g })

module _ (part : Part) (x : ℕ) (state memory answer : List ℕ) {number : ℕ} (e : number ≡ record_refusal part x (state_in state)) where
  pub works_taken : {state' memory' answer' : List ℕ} → number ≡ 0 → Gives (taken part x (state_in state) memory answer) 0 state' memory' answer'
      → Gives (worked part x state memory answer) number state' memory' answer'
  unfolding worked
  works_taken free gives = rw (← e, free) gives

  pub works_refused : (number ≡ 0 → ⊥) → Gives (worked part x state memory answer) number state memory answer
  unfolding worked
  works_refused refuses = rw (← e, ne_eqb number 0 refuses) (record { result = refl; spelled = refl; words = refl; room = refl })

module _ (part : Part) (x : ℕ) (state memory answer : List ℕ) {told : Bool} (e : told ≡ still x (state_in state)) where
  pub works_held : {state' answer' : List ℕ} → told ≡ true → state' ≡ spelling (held (pins_of x) (state_in state))
      → answer' ≡ put_answer answer 0 (answer_of part (pins_of x) (state_in state)) → Gives (worked part x state memory answer) 0 state' memory answer'
  unfolding worked taken
  works_held holds f g =
      let calm = sym e ∙ holds in
      rw (still_free part x (state_in state) calm, quiet_advanced part (pins_of x) _ (state_in state) (still_quiet x (state_in state) calm))
      (record { result = refl; spelled = f; words = refl; room = g })

pub answer_given : (part : Part) (x : ℕ) (state answer : List ℕ) {p : Pins} {s : State} {given : ℕ} {answer' : List ℕ} → p ≡ pins_of x → s ≡ state_in state
    → given ≡ answer_of part p s → answer' ≡ put_answer answer 0 given → answer' ≡ put_answer answer 0 (answer_of part (pins_of x) (state_in state))
answer_given part x state answer decoded read found put = put ∙ rw (found, read, decoded) refl

-- only what is remembered of the pins is other bytes than before
pub remembered_held : (x : ℕ) (state : List ℕ) {p : Pins} {s : State} {enables : Enables} {state' : List ℕ} → length state ≡ state_bytes → Bytes state → spells state ≡ true
    → p ≡ pins_of x → s ≡ state_in state → enables ≡ enables_after p s.enables → state' ≡ put_remembered p.wclk p.rclk enables state
    → state' ≡ spelling (held (pins_of x) (state_in state))
remembered_held x state {p = p} {enables = enables} room small own decoded read moved put =
    put ∙ ap (put_remembered p.wclk p.rclk enables) (sym (written_back state room small own)) ∙ rw (moved, read, decoded) (remembered_put (pins_of x) (state_in state))
