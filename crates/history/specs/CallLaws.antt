-- Calls lead where their records lead one by one.
use Rattle.std.specs.Prelude.{ℕ, ◌*◌, Bool, cond, ◌≢◌, ◌≡◌, eqb, length, Option, Some, None}
use Rattle.chip.specs.declared.advance.Put.{Put}
use Rattle.std.proofs.Math.Bool.{true, false, and-eq-true_iff}
use Rattle.std.proofs.Common.{true≢false, sym, ap, ◌∙◌, eq-eqb, eqb-true}
use mathlib.Core.List.{List, [], ◌∷◌}
use Rattle.std.proofs.Math.Path.{refl, subst}
use native.Mathlib.Omega.{arith}
use Rattle.chip.specs.declared.state.State.{State}
use Rattle.chip.specs.Advance.{advanced}
use Rattle.chip.specs.Answer.{answer_of}
use Rattle.chip.specs.Laws.{answer_whole}
use Rattle.chip.specs.Reset.{powered_up}
use Rattle.chip.specs.State.{passes}
use Rattle.counts.specs.declared.part.Part.{Part}
use Rattle.counts.specs.Part.{depth_of, number_of}
use Rattle.counts.specs.PartLaws.{own_number}
use Rattle.buffers.specs.Verdict.{Refuse, Verdict, Work}
use Rattle.fifo_c.specs.AsSample.{AsSample, call_is_sample}
use Rattle.numerals.specs.Bytes.{words_in}
use Rattle.numerals.specs.BytesLaws.{put_length}
use Rattle.buffers.specs.Memory.{fetched_from, memory_bytes, stored_in, word_size}
use Rattle.buffers.specs.Verdict.{answer_bytes, judged, on_record, on_state, roomy}
use Rattle.call_work.specs.Work.{decided, taken, worked}
use Rattle.fifo_c.specs.Call.{by_verdict, called, powered}
use Rattle.buffers.specs.VerdictLaws.{cleared}
use Rattle.spelling.specs.Spelling.{state_bytes, state_in}
use Rattle.spelling.specs.ReadBackLaws.{Spelled, power_up_bytes, power_up_read}
use Rattle.spelling.specs.SpellingLaws.{Bytes, spelling_length}
use Rattle.fifo.specs.Outcome.{Outcome}
use Rattle.pins.specs.Answer.{put_answer}
use Rattle.fifo.specs.Sample.{answers_after, record_refusal}
use Rattle.pins.specs.Record.{pins_of}
use Rattle.pins.specs.Trace.{whole_records, word_at}
use Rattle.pins.specs.TraceLaws.{records_length}
use Rattle.views.specs.TrueCounts.{TrueCounts}
use Rattle.history.specs.AnswerLaws.{answer_put, answers_next, taken_answer}
use Rattle.history.specs.Calls.{Asked, Buffers, call_all, call_of, call_on, is_sample, powered_on, samples_of}
use Rattle.history.specs.LedLaws.{not_three}
use Rattle.history.specs.Told.{Told}
use Rattle.history.specs.Trace.{Answers, Moment, answer_at, led, next, outcome, power_up}

stored_length : (store : Option Put) (memory : List ℕ) → length (stored_in store memory) ≡ length memory
stored_length None memory = refl
stored_length (Some put) memory = put_length memory (put.place * word_size) put.word

length_decided : (free : Bool) (number : ℕ) (part : Part) (x : ℕ) (state memory answer : List ℕ) → length (decided free number part x state memory answer).memory ≡ length memory
unfolding taken
length_decided true number part x state memory answer =
    stored_length (advanced part (pins_of x) (fetched_from part (state_in state) memory) (state_in state)).store memory
length_decided false number part x state memory answer = refl

length_by : (v : Verdict) (state memory answer : List ℕ) → length (by_verdict v state memory answer).memory ≡ length memory
unfolding worked
length_by (Work part x) state memory answer =
    let number = record_refusal part x (state_in state) in length_decided (eqb number 0) number part x state memory answer
length_by (Refuse number) state memory answer = refl

-- the buffers spell the moment
pub record Spells (part : Part) (b : Buffers) (m : Moment) : Type 0 where
  pub spells : Spelled b.state m.state
  pub long : length b.state ≡ state_bytes
  pub bytes : Bytes b.state
  pub whole : length b.memory ≡ memory_bytes part
  pub words : words_in b.memory ≡ m.memory

module _ (part : Part) where
  module _ (b : Buffers) (a : Asked) where
    moved_by : (v : Verdict) → judged (number_of part) a.bytes b.state (length b.memory) (length a.room) ≡ v → is_sample a ≡ false
        → ((by_verdict v b.state b.memory a.room).state ≡ b.state) × ((by_verdict v b.state b.memory a.room).memory ≡ b.memory)
    moved_by (Work known x) e f =
        let c = cleared (number_of part) a.bytes b.state (length b.memory) (length a.room) known x e in
        absurd (true≢false (sym (simp (eq-eqb (length a.bytes) word_size c.whole, eq-eqb (length a.room) answer_bytes c.ready.lengths.answer)) ∙ f))
    moved_by (Refuse number) e f = (refl, refl)

    -- a call that is no sample moves nothing
    call_still : is_sample a ≡ false → call_on part b a ≡ b
    unfolding call_on call_of called
    call_still f =
        let same = moved_by (judged (number_of part) a.bytes b.state (length b.memory) (length a.room)) refl f in
        rw (same.0, same.1)

    decided_not_three : (free : Bool) (number x : ℕ) → number ≢ 3 → (decided free number part x b.state b.memory a.room).code ≢ 3
    unfolding taken
    decided_not_three true number x h e = omega arith
    decided_not_three false number x h e = h e

    not_three_by : (room whole : Bool) (x : ℕ) → (worked part x b.state b.memory a.room).code ≢ 3
        → (by_verdict (cond room (cond whole (Work part x) (Refuse 4)) (Refuse 2)) b.state b.memory a.room).code ≢ 3
    not_three_by true true x h e = h e
    not_three_by true false x h e = omega arith
    not_three_by false whole x h e = omega arith

    -- whatever record and room it is handed: 2 and 4 are all that their lengths can bring
    pub call_not_three : (m : Moment) → Spells part b m → passes part m.state ≡ true → (call_of part b a).code ≢ 3
    unfolding call_of called judged on_state on_record worked
    call_not_three m g passed =
        let x = word_at a.bytes 0 in
        let number = record_refusal part x (state_in b.state) in
        rw (own_number part, g.spells.own, subst (λ (s : State). passes part s ≡ true) (sym g.spells.state) passed)
        (not_three_by (roomy part (length b.state) (length b.memory) (length a.room)) (eqb (length a.bytes) word_size) x
        (decided_not_three (eqb number 0) number x (not_three part x (state_in b.state))))

    module _ (m : Moment) (g : Spells part b m) (is : is_sample a ≡ true) where
      pub as_outcome : AsSample (call_of part b a) (outcome part m (word_at a.bytes 0)) a.room
      unfolding call_of outcome
      as_outcome =
          let both = (and-eq-true_iff (eqb (length a.bytes) word_size) (eqb (length a.room) answer_bytes)).0 is in
          rw (← g.words, ← g.spells.state)
          (call_is_sample (number_of part) a.bytes b.state b.memory a.room g.spells.own g.long g.bytes
          (eqb-true _ _ both.0) (omega (arith, g.whole)) (eqb-true _ _ both.1))

      -- the answer found in the room of a call that is taken
      pub call_answers : (t : TrueCounts) → Told part m t → (call_of part b a).code ≡ 0
          → let x = word_at a.bytes 0 in Answers part (pins_of x) (next part m x).state (answer_at 0 (call_of part b a).answer)
      call_answers t told z =
          let x = word_at a.bytes 0 in
          let answer = answer_of part (pins_of x) (next part m x).state in
          let both = (and-eq-true_iff (eqb (length a.bytes) word_size) (eqb (length a.room) answer_bytes)).0 is in
          let three : length a.room ≡ answer_bytes = eqb-true _ _ both.1 in
          let put : (call_of part b a).answer ≡ put_answer a.room 0 answer = as_outcome.room
          ∙ ap (λ (found : Outcome). answers_after found 0 a.room) (taken_answer part m t told x (sym as_outcome.number ∙ z)) in
          let same = ap (answer_at 0) put ∙ answer_put a.room 0 answer (omega arith) (answer_whole part (pins_of x) (next part m x).state) in
          subst (Answers part (pins_of x) (next part m x).state) (sym same) (answers_next part m t told x)

      spells_next : Spells part (call_on part b a) (next part m (word_at a.bytes 0))
      unfolding call_on call_of called next
      spells_next = record {
        spells = as_outcome.state;
        long = rw as_outcome.spelled (spelling_length (outcome part m (word_at a.bytes 0)).sampled.state);
        bytes = as_outcome.bytes;
        whole = length_by (judged (number_of part) a.bytes b.state (length b.memory) (length a.room)) b.state b.memory a.room
            ∙ g.whole;
        words = as_outcome.words;
      }

  calls_by : (is : Bool) (b : Buffers) (a : Asked) (calls : List Asked) (m : Moment) → is_sample a ≡ is
      → (is_sample a ≡ true → Spells part (call_all part (call_on part b a) calls) (led part (next part m (word_at a.bytes 0)) (samples_of calls)))
      → Spells part (call_all part b calls) (led part m (samples_of calls))
      → Spells part (call_all part (call_on part b a) calls) (led part m (cond is (word_at a.bytes 0 ∷ samples_of calls) (samples_of calls)))
  unfolding led
  calls_by true b a calls m e on off = on e
  calls_by false b a calls m e on off =
      subst (λ (c : Buffers). Spells part (call_all part c calls) (led part m (samples_of calls))) (sym (call_still b a e)) off

  pub calls_lead : (calls : List Asked) (b : Buffers) (m : Moment) → Spells part b m → Spells part (call_all part b calls) (led part m (samples_of calls))
  unfolding call_all samples_of led
  calls_lead [] b m g = g
  calls_lead (a ∷ calls) b m g =
      calls_by (is_sample a) b a calls m refl
      (λ is. calls_lead calls (call_on part b a) (next part m (word_at a.bytes 0)) (spells_next b a m g is)) (calls_lead calls b m g)

  pub powered_spells : (state memory : List ℕ) → length state ≡ state_bytes → length memory ≡ memory_bytes part
      → Spells part (powered_on state memory) (power_up (words_in memory))
  unfolding powered_on powered power_up
  powered_spells state memory room whole = rw (eq-eqb (length state) state_bytes room) (record {
    spells = power_up_read;
    long = spelling_length powered_up;
    bytes = power_up_bytes;
    whole = whole;
    words = refl;
  })

  pub words_deep : (memory : List ℕ) → length memory ≡ memory_bytes part → length (words_in memory) ≡ depth_of part
  words_deep memory whole = records_length memory 0 (whole_records memory) ∙ omega arith
