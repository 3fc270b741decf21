-- Data that had not settled, paper 02, order 2: the mark is judged last, where a word is asked for outside reset, and means nothing elsewhere.
use Rattle.std.specs.Prelude.{ℕ, Bool, false, cond, ◌&&◌, ◌≢◌, ◌↔◌, ◌≡◌, eqb}
use Rattle.std.proofs.Math.Bool.{true, not, and-false}
use Rattle.std.proofs.Common.{true≢false, sym, ◌∙◌, eqb-true, ne_eqb, arith}
use Rattle.std.proofs.Math.Path.{refl, ap}
use Rattle.counts.specs.declared.part.Part.{Part}
use Rattle.counts.specs.Either.{either}
use Rattle.counts.specs.Part.{depth_of}
use Rattle.offsets.specs.declared.registers.Method.{Method}
use Rattle.offsets.specs.declared.registers.Method.TheVariants.{Parallel, Serial}
use Rattle.pins.specs.declared.record.Pins.{Pins}
use Rattle.pins.specs.Record.{settled}
use Rattle.sides.specs.Clocks.{read_rises, write_rises}
use Rattle.sides.specs.Read.{retransmits}
use Rattle.chip.specs.declared.state.State.{State}
use Rattle.chip.specs.Enables.{last_fall_clean}
use Rattle.chip.specs.Levels.{High, Low, Outside, WriteRise}
use Rattle.chip.specs.Tells.{Tells, both, fails, high, high_where, low, three, write_rise}
use Rattle.refusals.specs.RefusalLaws.{numbers_by}
use Rattle.refusals.specs.Refuse.{asks_unselected, refusal_of, refuses_eight, refuses_five, refuses_nine, refuses_seven, refuses_six, refuses_ten, refuses_twelve}

-- the number of a sample, by whether its mark is judged and by the number of the same sample with D at rest
abbrev by_mark : Bool → ℕ → ℕ
by_mark judged same = cond (eqb same 0) (cond judged 12 0) same

-- behind a row that does not look at the mark
behind : (row : Bool) {at_rest : Bool} (number : ℕ) (judged : Bool) (further same : ℕ) → at_rest ≡ row → eqb number 0 ≡ false
    → further ≡ by_mark judged same → cond row number further ≡ by_mark judged (cond at_rest number same)
behind true number judged further same r e f = simp (r, e)
behind false number judged further same r e f = simp r f

outside_only : (outside judged : Bool) (number same : ℕ) → number ≡ by_mark judged same
    → cond outside number 0 ≡ by_mark (outside && judged) (cond outside same 0)
outside_only true judged number same e = e
outside_only false judged number same e = refl

unmarked : (free : Bool) (same : ℕ) → eqb same 0 ≡ free → cond free 0 same ≡ same
unmarked true same e = sym (eqb-true same 0 e)
unmarked false same e = refl

same_by : (judged : Bool) (number same : ℕ) → number ≡ by_mark judged same → (judged ≡ true → same ≢ 0) → number ≡ same
same_by true number same e n = e ∙ simp (ne_eqb same 0 (n refl))
same_by false number same e n = e ∙ unmarked (eqb same 0) same refl

exactly_by : (judged free : Bool) (number same : ℕ) → eqb same 0 ≡ free → number ≡ cond free (cond judged 12 0) same → same ≢ 12
    → (number ≡ 12) ↔ ((judged ≡ true) × (same ≡ 0))
exactly_by true true number same f e n = (λ t. (refl, eqb-true same 0 f), λ t. e)
exactly_by false true number same f e n = (λ t. absurd (omega arith), λ t. absurd (true≢false (sym t.0)))
exactly_by judged false number same f e n = (λ t. absurd (n (sym e ∙ t)), λ t. absurd (true≢false (rw t.1 at f)))

free_too : (judged free : Bool) (number same : ℕ) → eqb same 0 ≡ free → number ≡ cond free (cond judged 12 0) same → number ≡ 0 → same ≡ 0
free_too judged true number same f e z = eqb-true same 0 f
free_too judged false number same f e z = sym e ∙ z

twelve_by : {Out Asked : Type 0} {judged : Bool} {number same : ℕ} → Tells (Out × Asked) judged → number ≡ by_mark judged same → same ≢ 12
    → (number ≡ 12) ↔ (Out × Asked × (same ≡ 0))
twelve_by {judged = judged} {number = number} {same = same} told e n =
    let by = exactly_by judged (eqb same 0) number same refl e n in
    let asked = high_where told in
    (λ e. ((asked.0 (by.0 e).0).0, (asked.0 (by.0 e).0).1, (by.0 e).1), λ all. by.1 (asked.1 (all.0, all.1), all.2))

seven_speaks : (part : Part) (p : Pins) (s : State) → p.mrs && p.prs ≡ true → refuses_seven p s ≡ true → refusal_of part p s ≢ 0
unfolding refusal_of
seven_speaks part p s outside seven =
    let some : ℕ → Type 0 = λ n. n ≢ 0 in
    simp (outside, seven) (either some (refuses_five p s) 5 _ (λ z. omega arith) (either some (refuses_six p s) 6 7 (λ z. omega arith) (λ z. omega arith)))

unselected_at_rest : (method : Method) (p : Pins) → asks_unselected method (settled p) ≡ asks_unselected method p
unselected_at_rest Parallel p = refl
unselected_at_rest Serial p = refl

module _ (part : Part) (p : Pins) (s : State) where
  -- the order of the rows, spelled out
  abbrev in_order : Pins → ℕ
  in_order p =
      cond (refuses_five p s) 5
      (cond (p.mrs && p.prs)
      (cond (refuses_six p s) 6 (cond (refuses_seven p s) 7 (cond (refuses_eight p s) 8
      (cond (refuses_nine (depth_of part) p s) 9 (cond (refuses_ten p s) 10 (cond (refuses_twelve p s) 12 0)))))) 0)

  none_at_rest : refuses_twelve (settled p) s ≡ false
  unfolding refuses_twelve
  none_at_rest = simp (and-false)

  seven_at_rest : refuses_seven (settled p) s ≡ refuses_seven p s
  unfolding refuses_seven write_rises
  seven_at_rest = ap (λ (asks : Bool). write_rises p s.write && not p.ld && asks) (unselected_at_rest s.offsets.method p)

  judged_last : in_order p ≡ by_mark (p.mrs && p.prs && refuses_twelve p s) (in_order (settled p))
  unfolding last_fall_clean read_rises refuses_six refuses_eight refuses_nine refuses_ten retransmits write_rises
  judged_last =
      let row = refuses_twelve p s in
      behind (refuses_five p s) 5 _ _ _ refl refl
      (outside_only (p.mrs && p.prs) row _ _
      (behind (refuses_six p s) 6 row _ _ refl refl
      (behind (refuses_seven p s) 7 row _ _ seven_at_rest refl
      (behind (refuses_eight p s) 8 row _ _ refl refl
      (behind (refuses_nine (depth_of part) p s) 9 row _ _ refl refl
      (behind (refuses_ten p s) 10 row _ _ refl refl
      (simp none_at_rest)))))))

  never_at_rest : in_order (settled p) ≢ 12
  never_at_rest =
      let r = settled p in
      numbers_by (λ (n : ℕ). n ≢ 12) (refuses_five r s) (r.mrs && r.prs) (refuses_six r s) (refuses_seven r s) (refuses_eight r s)
      (refuses_nine (depth_of part) r s) (refuses_ten r s) (refuses_twelve r s) (λ e. omega arith) (λ e. omega arith) (λ e. omega arith)
      (λ e. omega arith) (λ e. omega arith) (λ e. omega arith) (λ e. omega arith) (λ row. absurd (true≢false (sym row ∙ none_at_rest)))

  -- it comes exactly where a word is asked for with the mark, LD HIGH or LOW, the part full or not, and nothing else is wrong
  pub twelve_exactly : (refusal_of part p s ≡ 12)
      ↔ (Outside p × (WriteRise p s × Low p.wen × High p.unsettled) × (refusal_of part (settled p) s ≡ 0))
  unfolding refusal_of refuses_twelve
  twelve_exactly =
      twelve_by (both (both (high p.mrs) (high p.prs)) (three (write_rise p s) (low p.wen) (high p.unsettled))) judged_last never_at_rest

  -- every other number comes before it
  pub others_first : refusal_of part (settled p) s ≢ 0 → refusal_of part p s ≡ refusal_of part (settled p) s
  unfolding refusal_of
  others_first some = same_by _ _ _ judged_last (λ e. some)

  -- in a reset, without a rise of WCLK or with WEN HIGH the mark changes nothing
  pub not_asked : ¬ (Outside p × WriteRise p s × Low p.wen) → refusal_of part p s ≡ refusal_of part (settled p) s
  unfolding refusal_of refuses_twelve
  not_asked n =
      let told = both (both (high p.mrs) (high p.prs)) (three (write_rise p s) (low p.wen) (high p.unsettled)) in
      same_by _ _ _ judged_last (λ e. (let all = (high_where told).0 e in absurd (n (all.0, all.1.0, all.1.1))))

  -- nor with a serial bit, which FWFT/SI gives and not D
  pub serial_free : Low p.ld → s.offsets.method ≡ Serial → refusal_of part p s ≡ refusal_of part (settled p) s
  unfolding refusal_of refuses_seven refuses_twelve
  serial_free ld method =
      let told = both (both (high p.mrs) (high p.prs)) (three (write_rise p s) (low p.wen) (high p.unsettled)) in
      same_by _ _ _ judged_last
      (λ e.
      (let all = (high_where told).0 e in
      let rises = (high_where (write_rise p s)).1 all.1.0 in
      let seven : refuses_seven p s ≡ true = simp (rises, ld, method, all.1.1) in
      seven_speaks part (settled p) s ((high_where (both (high p.mrs) (high p.prs))).1 all.0) (seven_at_rest ∙ seven)))

  -- so a word that is taken, into memory or an offset register, was at rest
  pub word_settled : refusal_of part p s ≡ 0 → Outside p → WriteRise p s → Low p.wen → Low p.unsettled
  unfolding refusal_of refuses_twelve
  word_settled free outside rise asked =
      let told = both (both (high p.mrs) (high p.prs)) (three (write_rise p s) (low p.wen) (high p.unsettled)) in
      let same = in_order (settled p) in
      fails (high p.unsettled)
      (λ moving.
      (let rest = free_too (p.mrs && p.prs && refuses_twelve p s) (eqb same 0) (in_order p) same refl judged_last free in
      let twelve = (twelve_by told judged_last never_at_rest).1 (outside, (rise, asked, moving), rest) in
      omega (arith, free, twelve)))
