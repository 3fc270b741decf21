-- What a caller is answered is what the onlooker sees.
use Rattle.std.specs.Prelude.{ℕ, ◌+◌, ◌*◌, ◌/◌, ◌%◌, ◌^◌, ◌<◌, Bool, cond, List, ◌↔◌, ◌≡◌, eqb, get_or, length, set}
use Rattle.std.proofs.Math.Bool.{true, false}
use Rattle.std.proofs.Math.Path.{refl, subst}
use Rattle.std.proofs.Common.{sym, ap, ◌∙◌, length-set, get_or-set_other, get_or-set_same, arith}
use Rattle.std.proofs.lemmas.Bool.{eqb-false}
use Rattle.chip.specs.declared.state.State.{State}
use Rattle.chip.specs.Advance.{advanced}
use Rattle.chip.specs.Answer.{answer_of}
use Rattle.chip.specs.Laws.{flags_given, shown_given}
use Rattle.refusals.specs.ReachLaws.{reached_passes}
use Rattle.chip.specs.State.{widths}
use Rattle.chip.specs.Widths.{tested_widths}
use Rattle.counts.specs.declared.part.Part.{Part}
use Rattle.fifo.specs.Outcome.{Taken}
use Rattle.pins.specs.Answer.{put_answer}
use Rattle.fifo.specs.Sample.{After, number_of, record_refusal, stepped, taken, turned_away}
use Rattle.pins.specs.declared.record.Pins.{Pins}
use Rattle.pins.specs.Record.{bit, pins_of}
use Rattle.views.specs.TrueCounts.{TrueCounts}
use Rattle.history.specs.Asked.{ShowsRoom, ShowsWord}
use Rattle.history.specs.LedLaws.{counts_next, sample_steps, told_next}
use Rattle.history.specs.Onlooker.{tells_full, tells_ready}
use Rattle.history.specs.Told.{Told}
use Rattle.history.specs.Trace.{Answers, Moment, answer_at, next, outcome, shown_by}

answers_by : (part : Part) (p : Pins) (s : State) → widths part s ≡ true → Answers part p s (answer_of part p s)
unfolding shown_by
answers_by part p s e =
    let flags = flags_given part p false s in
    record {
      ff = flags.0;
      ef = flags.1;
      hf = flags.2;
      pae = flags.3;
      paf = flags.4;
      register = λ low shows. shown_given part p s e low ∙ rw shows refl;
    }

module _ (part : Part) (m : Moment) (t : TrueCounts) (g : Told part m t) (x : ℕ) where
  answer_by : (is : Bool) → eqb (record_refusal part x m.state) 0 ≡ is
      → let a = cond is (taken part (pins_of x) m.state m.memory) (turned_away (record_refusal part x m.state) m.state m.memory) in
      number_of a.sampled.outcome ≡ 0 → a.sampled.outcome ≡ Taken (answer_of part (pins_of x) a.sampled.state)
  unfolding taken advanced
  answer_by true e z = refl
  answer_by false e z = absurd (eqb-false (record_refusal part x m.state) 0 e z)

  -- a sample with no refusal's number is taken, with the answer of the state that it leads to
  pub taken_answer : number_of (outcome part m x).sampled.outcome ≡ 0
      → (outcome part m x).sampled.outcome ≡ Taken (answer_of part (pins_of x) (next part m x).state)
  unfolding next stepped
  taken_answer =
      subst (λ (a : After). number_of a.sampled.outcome ≡ 0 → a.sampled.outcome ≡ Taken (answer_of part (pins_of x) a.sampled.state))
      (sym (sample_steps part m t g x)) (answer_by (eqb (record_refusal part x m.state) 0) refl)

  pub answers_next : Answers part (pins_of x) (next part m x).state (answer_of part (pins_of x) (next part m x).state)
  answers_next =
      let told = told_next part m t g x in
      answers_by part (pins_of x) (next part m x).state
      (tested_widths part (next part m x).state (reached_passes part (next part m x).state (counts_next part m x t) told.reached))

  pub answers_taken : (answer : ℕ) → (outcome part m x).sampled.outcome ≡ Taken answer → Answers part (pins_of x) (next part m x).state answer
  answers_taken answer e =
      let same : Taken answer ≡ Taken (answer_of part (pins_of x) (next part m x).state) = sym e ∙ taken_answer (ap number_of e) in
      let own : answer_of part (pins_of x) (next part m x).state ≡ answer = cc in
      subst (Answers part (pins_of x) (next part m x).state) own answers_next

  -- with the mode after the sample, the answer's bits of FF/IR and EF/OR tell a user whether the part shows room, and a word ready
  module _ (answer : ℕ) (given : (outcome part m x).sampled.outcome ≡ Taken answer) where
    pub room_answered : let after = next part m x in (tells_full after.notes.fwft (bit 23 answer) ≡ false) ↔ ShowsRoom part after
    room_answered = rw (answers_taken answer given).ff (λ e. e, λ e. e)

    pub word_answered : let after = next part m x in (tells_ready after.notes.fwft (bit 22 answer) ≡ true) ↔ ShowsWord part after
    word_answered = rw (answers_taken answer given).ef (λ e. e, λ e. e)

-- the answer that is put into a room is found in it,
pub answer_put : (room : List ℕ) (index answer : ℕ) → index * 3 + 2 < length room → answer < 2 ^ 24 → answer_at index (put_answer room index answer) ≡ answer
unfolding put_answer answer_at
answer_put room index answer within h =
    let place = index * 3 in
    let one = set room place (answer / 2 ^ 16 % 2 ^ 8) in
    let two = set one (place + 1) (answer / 2 ^ 8 % 2 ^ 8) in
    let three = set two (place + 2) (answer % 2 ^ 8) in
    let l1 : length one ≡ length room = length-set room place _ in
    let l2 : length two ≡ length room = length-set one (place + 1) _ ∙ l1 in
    let first : get_or three place 0 ≡ answer / 2 ^ 16 % 2 ^ 8
    = get_or-set_other two (place + 2) place _ 0 (λ e. absurd (omega arith)) ∙ get_or-set_other one (place + 1) place _ 0 (λ e. absurd (omega arith))
    ∙ get_or-set_same room place _ 0 (omega arith) in
    let second : get_or three (place + 1) 0 ≡ answer / 2 ^ 8 % 2 ^ 8
    = get_or-set_other two (place + 2) (place + 1) _ 0 (λ e. absurd (omega arith)) ∙ get_or-set_same one (place + 1) _ 0 (omega arith) in
    let third : get_or three (place + 2) 0 ≡ answer % 2 ^ 8 = get_or-set_same two (place + 2) _ 0 (omega arith) in
    rw (first, second, third) (omega arith)

-- and those of earlier records stay
pub answer_kept : (room : List ℕ) (index earlier answer : ℕ) → earlier < index → answer_at earlier (put_answer room index answer) ≡ answer_at earlier room
unfolding put_answer answer_at
answer_kept room index earlier answer before =
    let place = index * 3 in
    let one = set room place (answer / 2 ^ 16 % 2 ^ 8) in
    let two = set one (place + 1) (answer / 2 ^ 8 % 2 ^ 8) in
    let far : (i : ℕ) → i < place → get_or (set two (place + 2) (answer % 2 ^ 8)) i 0 ≡ get_or room i 0
    = λ i l. get_or-set_other two (place + 2) i _ 0 (λ e. absurd (omega arith)) ∙ get_or-set_other one (place + 1) i _ 0 (λ e. absurd (omega arith))
    ∙ get_or-set_other room place i _ 0 (λ e. absurd (omega arith)) in
    rw (far (earlier * 3) (omega arith), far (earlier * 3 + 1) (omega arith), far (earlier * 3 + 2) (omega arith))
