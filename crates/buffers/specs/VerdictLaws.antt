-- The C call: what stands when a record is to be worked.
use Rattle.std.specs.Prelude.{ℕ, ◌+◌, ◌*◌, ◌<◌, Bool, true, false, cond, ◌&&◌, List, ◌≡◌, refl, eqb, length, Result, Ok, Err, Option, Some, None}
use Rattle.chip.specs.declared.advance.Put.{Put}
use Rattle.std.proofs.Math.Bool.{and-eq-true_iff}
use Rattle.std.proofs.Common.{sym, ap, subst, eqb-true, arith}
use Rattle.buffers.specs.Verdict.{Refuse, Verdict, Work}
use Rattle.buffers.specs.Memory.{Within, memory_bytes, word_size}
use Rattle.buffers.specs.Verdict.{in_numbers, Lengths, Ready, answer_bytes, judged, on_record, on_state, roomy}
use Rattle.chip.specs.Laws.{Placed}
use Rattle.chip.specs.State.{passes}
use Rattle.counts.specs.declared.part.Part.{Part}
use Rattle.counts.specs.Laws.{place_below}
use Rattle.counts.specs.Part.{by_part, depth_of, part_of, place_bits}
use Rattle.counts.specs.Round.{place_of}
use Rattle.pins.specs.Trace.{word_at}
use Rattle.refusal_kinds.specs.declared.Refusal.{Refusal}
use Rattle.refusal_kinds.specs.NumberLaws.{number_injective}
use Rattle.spelling.specs.Spelling.{spells, state_bytes, state_in}

same_number : {a b : ℕ} → Refuse a ≡ Refuse b → a ≡ b
same_number e = cc

same_part : {p q : Part} {x y : ℕ} → Work p x ≡ Work q y → p ≡ q
same_part e = cc

same_word : {p q : Part} {x y : ℕ} → Work p x ≡ Work q y → x ≡ y
same_word e = cc

not_both : {part : Part} {x number : ℕ} → Work part x ≡ Refuse number → ⊥
not_both e = let z : ◌≡◌ {A = ℕ} 0 1 = cc in absurd (omega arith)

-- nothing is lost in numbers: two verdicts that are the same there are the same
pub in_numbers_injective : (a b : Result (Part × ℕ) Refusal) → in_numbers a ≡ in_numbers b → a ≡ b
in_numbers_injective (Ok a) (Ok b) e = λ i. Ok (same_part e i, same_word e i)
in_numbers_injective (Ok a) (Err b) e = absurd (not_both e)
in_numbers_injective (Err a) (Ok b) e = absurd (not_both (sym e))
in_numbers_injective (Err a) (Err b) e = ap Err (number_injective a b (same_number e))

pub roomy_lengths : (part : Part) (state memory answer : ℕ) → roomy part state memory answer ≡ true → Lengths part state memory answer
roomy_lengths part state memory answer e =
    let all = (and-eq-true_iff (eqb state state_bytes && eqb memory (memory_bytes part)) (eqb answer answer_bytes)).0 e in
    let both = (and-eq-true_iff (eqb state state_bytes) (eqb memory (memory_bytes part))).0 all.0 in
    record { state = eqb-true state state_bytes both.0; memory = eqb-true memory (memory_bytes part) both.1; answer = eqb-true answer answer_bytes all.1 }

-- the word fetched and the word stored lie in the memory
pub fetch_within : (part : Part) (count bytes : ℕ) → bytes ≡ memory_bytes part → place_of (depth_of part) count * word_size + 3 < bytes
fetch_within part count bytes e = let below = place_below (place_bits part) count in omega arith

pub store_within : (part : Part) (store : Option Put) (bytes : ℕ) → bytes ≡ memory_bytes part → Placed part store → Within store bytes
store_within part None bytes e placed = tt
store_within part (Some put) bytes e placed = omega arith

-- every test that a record to be worked has passed
pub record Cleared (number : ℕ) (bytes state : List ℕ) (memory answer : ℕ) (part : Part) (x : ℕ) : Type 0 where
  pub known : part_of number ≡ Some part
  pub ready : Ready part state memory answer
  pub whole : length bytes ≡ word_size
  pub word : x ≡ word_at bytes 0

abbrev Clears : ℕ → List ℕ → List ℕ → ℕ → ℕ → Verdict → Type 0
Clears number bytes state memory answer (Work part x) = Cleared number bytes state memory answer part x
Clears number bytes state memory answer (Refuse refusal) = Unit {0}

when : {A : Type 0} (P : A → Type 0) (test : Bool) (x y : A) → (test ≡ true → P x) → P y → P (cond test x y)
when P true x y f g = f refl
when P false x y f g = g

when_known : {A : Type 0} (P : A → Type 0) (looked : Option Part) (f : Part → A) (y : A) → ((part : Part) → looked ≡ Some part → P (f part)) → P y → P (by_part looked f y)
when_known P (Some part) f y g h = g part refl
when_known P None f y g h = h

all_cleared : (number : ℕ) (bytes state : List ℕ) (memory answer : ℕ) → Clears number bytes state memory answer (judged number bytes state memory answer)
unfolding judged on_state on_record
all_cleared number bytes state memory answer =
    let P = Clears number bytes state memory answer in
    when_known P (part_of number) _ _
    (λ part known. when P (roomy part (length state) memory answer) _ _
    (λ room. when P (spells state && passes part (state_in state)) _ _
    (λ tested. when P (eqb (length bytes) word_size) _ _
    (λ whole. let both = (and-eq-true_iff (spells state) (passes part (state_in state))).0 tested in
    record {
      known = known;
      ready = record { lengths = roomy_lengths part (length state) memory answer room; spelled = both.0; passed = both.1 };
      whole = eqb-true (length bytes) word_size whole;
      word = refl;
    })
    tt)
    tt)
    tt)
    tt

pub cleared : (number : ℕ) (bytes state : List ℕ) (memory answer : ℕ) (part : Part) (x : ℕ)
    → judged number bytes state memory answer ≡ Work part x → Cleared number bytes state memory answer part x
cleared number bytes state memory answer part x e = subst (Clears number bytes state memory answer) e (all_cleared number bytes state memory answer)
