-- What is turned away, Bench figures: when the verdict is 1, 2, 3 or 4, in the table's order, and when the record is worked. All lengths and part
-- numbers stand in plain figures, so that a definition that says another is refused here.
use Rattle.std.specs.Prelude.{ℕ, true, false, List, ◌≢◌, ◌≡◌, refl, length}
use Rattle.std.proofs.Math.Bool.{and-false}
use Rattle.std.proofs.Common.{◌∙◌}
use borrow.Author.Tests.{eq-eqb, ne_eqb}
use Rattle.buffers.specs.Verdict.{Work, Refuse}
use Rattle.buffers.specs.Memory.{memory_bytes}
use Rattle.buffers.specs.Verdict.{judged, on_record, on_state}
use Rattle.chip.specs.State.{passes}
use Rattle.counts.specs.declared.part.Part.{Part}
use Rattle.counts.specs.declared.part.Part.TheVariants.{Idt72V255LA, Idt72V265LA}
use Rattle.fifo.specs.NumberLaws.{asked_by, known}
use Rattle.pins.specs.Trace.{word_at}
use Rattle.spelling.specs.Spelling.{spells, state_in}

-- Parts and paper authority: each part's memory in bytes, four for each word of its depth
abbrev pub memory_length : Part → ℕ
memory_length Idt72V255LA = 32768
memory_length Idt72V265LA = 65536

pub same_length : (part : Part) → memory_length part ≡ memory_bytes part
same_length Idt72V255LA = refl
same_length Idt72V265LA = refl

-- what follows shows the same by itself, so that each is refused where its memory is another
abbrev Same : Part → Type 0
Same part = memory_length part ≡ memory_bytes part

of_each : (P : Part → Type 0) → P Idt72V255LA → P Idt72V265LA → (part : Part) → P part
of_each P x y Idt72V255LA = x
of_each P x y Idt72V265LA = y

module _ (bytes state : List ℕ) (memory answer : ℕ) where
  pub one_comes : (number : ℕ) → number ≢ 255 → number ≢ 265 → judged number bytes state memory answer ≡ Refuse 1
  unfolding judged
  one_comes number n m = simp (ne_eqb number 255 n, ne_eqb number 265 m)

  module _ (part : Part) where
    pub two_by_state : length state ≢ 52 → judged (asked_by part) bytes state memory answer ≡ Refuse 2
    unfolding judged
    two_by_state n = simp (known part, ne_eqb (length state) 52 n)

    pub two_by_memory_lem : memory ≢ memory_length part → judged (asked_by part) bytes state memory answer ≡ Refuse 2
    unfolding judged
    two_by_memory_lem n = let same = of_each Same refl refl part in simp (known part, ← same, ne_eqb memory (memory_length part) n, and-false)

    pub two_by_answer : answer ≢ 3 → judged (asked_by part) bytes state memory answer ≡ Refuse 2
    unfolding judged
    two_by_answer n = simp (known part, ne_eqb answer 3 n, and-false)

    module _ (e : length state ≡ 52) (f : memory ≡ memory_length part) (g : answer ≡ 3) where
      past_two : Same part → judged (asked_by part) bytes state memory answer ≡ on_state part bytes state
      unfolding judged
      past_two same = simp (known part, eq-eqb (length state) 52 e, eq-eqb memory (memory_bytes part) (f ∙ same), eq-eqb answer 3 g)

      pub three_by_spelling : spells state ≡ false → judged (asked_by part) bytes state memory answer ≡ Refuse 3
      unfolding on_state
      three_by_spelling none = simp (past_two (of_each Same refl refl part), none)

      pub three_by_test : passes part (state_in state) ≡ false → judged (asked_by part) bytes state memory answer ≡ Refuse 3
      unfolding on_state
      three_by_test fails = simp (past_two (of_each Same refl refl part), fails, and-false)

      module _ (own : spells state ≡ true) (passed : passes part (state_in state) ≡ true) where
        past_three : Same part → judged (asked_by part) bytes state memory answer ≡ on_record part bytes
        unfolding on_state
        past_three same = simp (past_two same, own, passed)

        pub four_by_length : length bytes ≢ 4 → judged (asked_by part) bytes state memory answer ≡ Refuse 4
        unfolding on_record
        four_by_length n = simp (past_three (of_each Same refl refl part), ne_eqb (length bytes) 4 n)

        pub record_worked : length bytes ≡ 4 → judged (asked_by part) bytes state memory answer ≡ Work part (word_at bytes 0)
        unfolding on_record
        record_worked whole = simp (past_three (of_each Same refl refl part), eq-eqb (length bytes) 4 whole)
