-- What is turned away, for the C call: 1 to 4 on what is handed in.
use Rattle.std.specs.Prelude.{ℕ, Bool, true, cond, ◌&&◌, List, ◌≡◌, eqb, length, Result, Ok, Err}
use Rattle.buffers.specs.Memory.{memory_bytes, word_size}
use Rattle.chip.specs.State.{passes}
use Rattle.counts.specs.declared.part.Part.{Part}
use Rattle.counts.specs.Part.{by_part, part_of}
use Rattle.pins.specs.Trace.{word_at}
use Rattle.refusal_kinds.specs.declared.Refusal.{Refusal}
use Rattle.refusal_kinds.specs.Numbers.{number}
use Rattle.spelling.specs.Spelling.{spells, state_bytes, state_in}

-- a record of four bytes for a part and a state that have passed their tests, or a refusal's number
pub data Verdict : Type 0 where
  Work : Part → ℕ → Verdict
  Refuse : ℕ → Verdict

abbrev pub in_numbers : Result (Part × ℕ) Refusal → Verdict
in_numbers (Ok asked) = Work asked.0 asked.1
in_numbers (Err refusal) = Refuse (number refusal)

abbrev pub answer_bytes : ℕ
answer_bytes = 3

-- not refused 2, on three lengths
abbrev pub roomy : Part → ℕ → ℕ → ℕ → Bool
roomy part state memory answer = eqb state state_bytes && eqb memory (memory_bytes part) && eqb answer answer_bytes

pub record Lengths (part : Part) (ofState ofMemory ofAnswer : ℕ) : Type 0 where
  pub state : ofState ≡ state_bytes
  pub memory : ofMemory ≡ memory_bytes part
  pub answer : ofAnswer ≡ answer_bytes

-- a part, a state and two lengths that pass 1, 2 and 3
pub record Ready (part : Part) (state : List ℕ) (memory answer : ℕ) : Type 0 where
  pub lengths : Lengths part (length state) memory answer
  pub spelled : spells state ≡ true
  pub passed : passes part (state_in state) ≡ true

-- 4 on the record's length
unfoldable pub on_record : Part → List ℕ → Verdict
on_record part bytes = cond (eqb (length bytes) word_size) (Work part (word_at bytes 0)) (Refuse 4)

-- 3 where the bytes spell no state, and where the state fails its test
unfoldable pub on_state : Part → List ℕ → List ℕ → Verdict
on_state part bytes state = cond (spells state && passes part (state_in state)) (on_record part bytes) (Refuse 3)

-- 1, 2, 3 and 4, on the record, the state and two lengths
unfoldable pub judged : ℕ → List ℕ → List ℕ → ℕ → ℕ → Verdict
judged number bytes state memory answer =
    by_part (part_of number)
    (λ part. cond (roomy part (length state) memory answer) (on_state part bytes state) (Refuse 2))
    (Refuse 1)

-- the refusal's number, 0 for a record to be worked
abbrev pub number_of : Verdict → ℕ
number_of (Work part x) = 0
number_of (Refuse number) = number
