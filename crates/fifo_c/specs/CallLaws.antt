-- The C call: a refusal moves nothing.
use Rattle.std.specs.Prelude.{ℕ, Bool, true, false, List, ◌≢◌, ◌≡◌, refl, eqb, length}
use Rattle.buffers.specs.Verdict.{Refuse, Verdict, Work, judged}
use Rattle.counts.specs.declared.part.Part.{Part}
use Rattle.fifo.specs.Sample.{record_refusal}
use Rattle.spelling.specs.Spelling.{state_in}
use Rattle.call_work.specs.Work.{Called, decided, taken, turned_away, worked}
use Rattle.fifo_c.specs.Call.{by_verdict, called}

abbrev Unmoved : Called → List ℕ → List ℕ → List ℕ → Type 0
Unmoved c state memory answer = c.code ≢ 0 → c ≡ turned_away c.code state memory answer

unmoved_decided : (free : Bool) (number : ℕ) (part : Part) (x : ℕ) (state memory answer : List ℕ) → Unmoved (decided free number part x state memory answer) state memory answer
unfolding taken
unmoved_decided true number part x state memory answer = λ n. absurd (n refl)
unmoved_decided false number part x state memory answer = λ n. refl

unmoved_by : (v : Verdict) (state memory answer : List ℕ) → Unmoved (by_verdict v state memory answer) state memory answer
unfolding worked
unmoved_by (Work part x) state memory answer =
    let number = record_refusal part x (state_in state) in unmoved_decided (eqb number 0) number part x state memory answer
unmoved_by (Refuse number) state memory answer = λ n. refl

-- whatever was handed in
pub refused_still : (number : ℕ) (bytes state memory answer : List ℕ) → (called number bytes state memory answer).code ≢ 0
    → called number bytes state memory answer ≡ turned_away (called number bytes state memory answer).code state memory answer
unfolding called
refused_still number bytes state memory answer = unmoved_by (judged number bytes state (length memory) (length answer)) state memory answer
