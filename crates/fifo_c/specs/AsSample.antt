-- The C call is the sample: on bytes, it gives what `sample` gives on what the bytes spell.
use Rattle.std.specs.Prelude.{ℕ, ◌%◌, Bool, true, false, cond, ◌≢◌, List, ◌≡◌, refl, eqb, length, Option, Some, None}
use Rattle.chip.specs.declared.advance.Put.{Put}
use Rattle.std.proofs.Math.Bool.{and-true}
use Rattle.std.proofs.Common.{sym, eq-eqb, eqb-true, ne_eqb, arith}
use Rattle.std.proofs.lemmas.Bool.{eqb-false}
use Rattle.chip.specs.declared.state.State.{State}
use Rattle.chip.specs.Advance.{advanced, store_of, stored}
use Rattle.chip.specs.Counted.{counts_stay}
use Rattle.chip.specs.Laws.{Placed, store_placed}
use Rattle.chip.specs.State.{passes}
use Rattle.chip.specs.Widths.{tested_widths, widths_stay}
use Rattle.counts.specs.declared.part.Part.{Part}
use Rattle.counts.specs.Laws.{place_below}
use Rattle.counts.specs.Part.{by_part, depth_of, part_of, place_bits}
use Rattle.counts.specs.Round.{place_of}
use Rattle.fifo.specs.Sample as sample
use Rattle.fifo.specs.Sample.{After, answers_after, fetched_for, is_depth, record_refusal, sampled, stepped}
use Rattle.pins.specs.Record.{pins_of}
use Rattle.pins.specs.Trace.{whole_records, word_at}
use Rattle.pins.specs.TraceLaws.{records_length}
use Rattle.buffers.specs.Verdict.{Refuse, Verdict}
use Rattle.numerals.specs.Bytes.{words_in}
use Rattle.numerals.specs.BytesLaws.{word_in, words_put}
use Rattle.buffers.specs.Memory.{fetched_from, memory_bytes, stored_in, word_size}
use Rattle.buffers.specs.Verdict.{answer_bytes, judged, on_record, on_state, roomy}
use Rattle.call_work.specs.Work.{Called, taken, turned_away, worked}
use Rattle.fifo_c.specs.Call.{by_verdict, called}
use Rattle.spelling.specs.Spelling.{spelling, spells, state_bytes, state_in}
use Rattle.spelling.specs.ReadBackLaws.{Spelled, counted_in, read_back, spelling_bytes}
use Rattle.spelling.specs.SpellingLaws.{Bytes, written_back}

-- the number, the state spelled, the memory's words and the answer room are those of a sample
pub record AsSample (c : Called) (a : After) (answer : List ℕ) : Type 0 where
  pub number : c.code ≡ sample.number_of a.sampled.outcome
  pub spelled : c.state ≡ spelling a.sampled.state
  pub state : Spelled c.state a.sampled.state
  pub bytes : Bytes c.state
  pub words : words_in c.memory ≡ a.memory
  pub room : c.answer ≡ answers_after a.sampled.outcome 0 answer

stored_words : (part : Part) (store : Option Put) (memory : List ℕ) → length memory ≡ memory_bytes part → Placed part store
    → words_in (stored_in store memory) ≡ stored store (words_in memory)
stored_words part None memory e placed = refl
stored_words part (Some put) memory e placed = words_put memory put.place (omega arith) put.word (omega arith)

module _ (state memory answer : List ℕ) (own : spells state ≡ true) (room : length state ≡ state_bytes) (small : Bytes state) where
  abbrev s : State
  s = state_in state

  abbrev Same : Called → After → Type 0
  Same c a = AsSample c a answer

  refused_same : (number : ℕ) → Same (turned_away number state memory answer) (sample.turned_away number s (words_in memory))
  refused_same number = record {
    number = refl;
    spelled = sym (written_back state room small own);
    state = record { own = own; state = refl };
    bytes = small;
    words = refl;
    room = refl;
  }

  module _ (part : Part) (x : ℕ) (passed : passes part s ≡ true) (deep : length memory ≡ memory_bytes part) where
    abbrev fetched : ℕ
    fetched = fetched_from part s memory

    fetched_same : fetched ≡ fetched_for part s (words_in memory)
    fetched_same =
        let below = place_below (place_bits part) s.read.count.0 in
        sym (word_in memory (place_of (depth_of part) s.read.count.0) (omega arith))

    taken_same_lem : Same (taken part x s memory answer) (sample.taken part (pins_of x) s (words_in memory))
    unfolding taken sample.taken advanced
    taken_same_lem =
        let wide = widths_stay part (pins_of x) fetched s (tested_widths part s passed) in
        let counts = counts_stay part (pins_of x) fetched s (counted_in state small) in
        rw (← fetched_same) (
        record {
          number = refl;
          spelled = refl;
          state = read_back part (advanced part (pins_of x) fetched s).state wide counts;
          bytes = spelling_bytes part (advanced part (pins_of x) fetched s).state wide counts;
          words = stored_words part (store_of part (pins_of x) s) memory deep (store_placed part (pins_of x) s);
          room = refl;
        })

pair_known : {A : Type 0} (P : A → After → Type 0) (looked : Option Part) (f : Part → A) (g : Part → After) (v : A) (a : After) → ((part : Part) → P (f part) (g part)) → P v a
    → P (by_part looked f v) (by_part looked g a)
pair_known P (Some part) f g v a h k = h part
pair_known P None f g v a h k = k

pair_when : {A : Type 0} (P : A → After → Type 0) (test : Bool) (v w : A) (a b : After) → (test ≡ true → P v a) → P w b → P (cond test v w) (cond test a b)
pair_when P true v w a b h k = h refl
pair_when P false v w a b h k = k

same_test : (told : Bool) (a b c d : ℕ) → eqb a b ≡ told → (a ≡ b → c ≡ d) → (c ≡ d → a ≡ b) → told ≡ eqb c d
same_test true a b c d e f g = sym (eq-eqb c d (f (eqb-true a b e)))
same_test false a b c d e f g = let n : a ≢ b = eqb-false a b e in sym (ne_eqb c d (λ h. n (g h)))

-- for a memory of whole words: as many bytes as the part asks for, as many words as it is deep
same_room : (part : Part) (state memory answer : List ℕ) → length state ≡ state_bytes → length memory % word_size ≡ 0 → length answer ≡ answer_bytes
    → roomy part (length state) (length memory) (length answer) ≡ is_depth part (length (words_in memory))
same_room part state memory answer e f g =
    rw (e, g, records_length memory 0 (whole_records memory))
    (simp (and-true) (same_test (eqb (length memory) (memory_bytes part)) (length memory) (memory_bytes part) (whole_records memory) (depth_of part) refl (λ h. omega arith) (λ h. omega arith)))

pub call_is_sample : (number : ℕ) (bytes state memory answer : List ℕ) → spells state ≡ true → length state ≡ state_bytes → Bytes state
    → length bytes ≡ word_size → length memory % word_size ≡ 0 → length answer ≡ answer_bytes
    → AsSample (called number bytes state memory answer) (sampled number (word_at bytes 0) (state_in state) (words_in memory)) answer
unfolding called judged on_state on_record worked sampled stepped
call_is_sample number bytes state memory answer own room small whole words three =
    let s = state_in state in
    let x = word_at bytes 0 in
    let P : Called → After → Type 0 = λ c a. AsSample c a answer in
    let Q : Verdict → After → Type 0 = λ v a. P (by_verdict v state memory answer) a in
    let refused = refused_same state memory answer own room small in
    pair_known Q (part_of number) _ _ (Refuse 1) _
    (λ part. rw (same_room part state memory answer room words three, own, eq-eqb (length bytes) word_size whole)
    (pair_when Q (is_depth part (length (words_in memory))) _ (Refuse 2) _ _
    (λ deep. pair_when Q (passes part s) _ (Refuse 3) _ _
    (λ passed. pair_when P (eqb (record_refusal part x s) 0) _ _ _ _
    (λ free. taken_same_lem state memory answer own room small part x passed
    (let d = eqb-true (length (words_in memory)) (depth_of part) deep in let l = records_length memory 0 (whole_records memory) in omega arith))
    (refused (record_refusal part x s)))
    (refused 3))
    (refused 2)))
    (refused 1)
