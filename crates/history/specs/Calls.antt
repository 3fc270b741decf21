-- A trace through the C call: a state and a memory in buffers that nothing but `fifo_power_up` and `fifo_sample` touches.
use Rattle.std.specs.Prelude.{ℕ, Bool, cond, ◌&&◌, List, [], ◌∷◌, eqb, length}
use Rattle.counts.specs.declared.part.Part.{Part}
use Rattle.counts.specs.Part.{number_of}
use Rattle.buffers.specs.Memory.{word_size}
use Rattle.buffers.specs.Verdict.{answer_bytes}
use Rattle.call_work.specs.Work.{Called}
use Rattle.fifo_c.specs.Call.{called, powered}
use Rattle.pins.specs.Trace.{word_at}

pub record Buffers : Type 0 where
  pub state : List ℕ
  pub memory : List ℕ

-- what a call is handed beside them: a record's bytes, and a room for the answer
pub record Asked : Type 0 where
  pub bytes : List ℕ
  pub room : List ℕ

unfoldable pub powered_on : List ℕ → List ℕ → Buffers
powered_on state memory = record { state = (powered state).state; memory = memory }

unfoldable pub call_of : Part → Buffers → Asked → Called
call_of part b a = called (number_of part) a.bytes b.state b.memory a.room

-- after one call, and after many
unfoldable pub call_on : Part → Buffers → Asked → Buffers
call_on part b a = record { state = (call_of part b a).state; memory = (call_of part b a).memory }

unfoldable pub call_all : Part → Buffers → List Asked → Buffers
call_all part b [] = b
call_all part b (a ∷ calls) = call_all part (call_on part b a) calls

-- a call is a sample where its record and its room have their lengths; any other is refused
abbrev pub is_sample : Asked → Bool
is_sample a = eqb (length a.bytes) word_size && eqb (length a.room) answer_bytes

unfoldable pub samples_of : List Asked → List ℕ
samples_of [] = []
samples_of (a ∷ calls) = cond (is_sample a) (word_at a.bytes 0 ∷ samples_of calls) (samples_of calls)
