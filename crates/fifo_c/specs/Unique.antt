-- What counts as an answer proved: two outcomes that meet a call's promise are the same in number and in every buffer.
use Rattle.std.specs.Prelude.{ℕ, List, ◌≡◌}
use Rattle.std.proofs.Common.{sym, ◌∙◌}
use Rattle.call_work.specs.Unique.{gives_codes_unique}
use Rattle.fifo_c.specs.Call.{Calls, GivesMemoryBytes, GivesStateBytes, PowersUp, called}

pub state_bytes_unique : (a b : ℕ) → GivesStateBytes a → GivesStateBytes b → a ≡ b
state_bytes_unique a b e f = e ∙ sym f

pub memory_bytes_unique : (number a b : ℕ) → GivesMemoryBytes number a → GivesMemoryBytes number b → a ≡ b
memory_bytes_unique number a b e f = e ∙ sym f

pub power_up_unique : (state : List ℕ) (a b : ℕ) (s t : List ℕ) → PowersUp state a s → PowersUp state b t → (a ≡ b) × (s ≡ t)
power_up_unique state a b s t f g = (f.result ∙ sym g.result, f.spelled ∙ sym g.spelled)

pub call_unique : (number : ℕ) (bytes state memory answer : List ℕ) (a b : ℕ) (s t m n k l : List ℕ)
    → Calls number bytes state memory answer a s m k → Calls number bytes state memory answer b t n l → (a ≡ b) × (s ≡ t) × (m ≡ n) × (k ≡ l)
call_unique number bytes state memory answer = gives_codes_unique (called number bytes state memory answer)
