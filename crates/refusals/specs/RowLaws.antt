-- What is turned away: the number given is that of the first row that holds, and no other.
use Rattle.std.specs.Prelude.{ℕ, ◌+◌, ◌-◌, ◌<◌, Bool, true, false, not, cond, ◌&&◌, ◌||◌, ◌≢◌, ◌↔◌, ◌≡◌, ltb}
use Rattle.std.proofs.Common.{inl, inr, sym, ◌∙◌, arith}
use Rattle.std.proofs.Math.Path.{refl}
use Rattle.counts.specs.declared.part.Part.{Part}
use Rattle.counts.specs.Either.{either}
use Rattle.counts.specs.Part.{depth_of}
use Rattle.offsets.specs.declared.registers.Method.{Method}
use Rattle.offsets.specs.declared.registers.Method.TheVariants.{Parallel, Serial}
use Rattle.pins.specs.declared.record.Pins.{Pins}
use Rattle.sides.specs.declared.read.Mode.{Mode}
use Rattle.sides.specs.declared.read.Mode.TheVariants.{Standard, Fwft}
use Rattle.sides.specs.Clocks.{read_rises, write_rises}
use Rattle.sides.specs.Read.{retransmits}
use Rattle.sides.specs.SinceReset.{Tallies}
use Rattle.views.specs.declared.retransmit.View.{View}
use Rattle.views.specs.declared.retransmit.View.TheVariants.{Unseen, Taken, Seen}
use Rattle.views.specs.Retransmit.{is_seen}
use Rattle.chip.specs.declared.state.State.{State}
use Rattle.chip.specs.Enables.{last_fall_clean}
use Rattle.chip.specs.EnablesLaws.{unclean}
use Rattle.chip.specs.Levels.{Low, ReadRise}
use Rattle.chip.specs.Tells.{Tells, yes, no, at_most, both, four, high, low, one, read_rise, same, three, write_rise}
use Rattle.refusals.specs.NineLaws.{nine_exact}
use Rattle.refusals.specs.Refuse.{asks_unselected, refusal_of, refuses_eight, refuses_five, refuses_nine, refuses_seven, refuses_six, refuses_ten, refuses_twelve, retransmit_most}
use Rattle.refusals.specs.Rows.{FirstRow, Given, Row5, Row6, Row7, Row8, Row9, Row10, Row12, Unselected, lows, most_words}

several : (wen ren sen : Bool) → Tells (1 < lows wen + lows ren + lows sen) (not wen && not ren || not wen && not sen || not ren && not sen)
several true true true = no (omega arith)
several true true false = no (omega arith)
several true false true = no (omega arith)
several true false false = yes (omega arith)
several false true true = no (omega arith)
several false true false = yes (omega arith)
several false false sen = yes (omega arith)

unselected : (asks : Method → Bool) (p : Pins) → Tells (Low p.sen) (asks Parallel) → Tells (Low p.wen) (asks Serial) → (method : Method)
    → Tells (Unselected method p) (asks method)
unselected asks p parallel serial Parallel = parallel
unselected asks p parallel serial Serial = serial

more_than_most : (part : Part) (mode : Mode) (accepted : ℕ)
    → Tells (most_words part mode - 2 < accepted) (ltb (retransmit_most (depth_of part) mode) accepted)
more_than_most part Standard accepted = at_most _ _
more_than_most part (Fwft untaken) accepted = at_most _ _

unseen : (view : View) → Tells (view ≢ Seen) (not (is_seen view))
unseen Unseen = yes (λ e. let z : ◌≡◌ {A = ℕ} 0 1 = cc in omega arith)
unseen Taken = yes (λ e. let z : ◌≡◌ {A = ℕ} 0 1 = cc in omega arith)
unseen Seen = no (λ n. n refl)

module _ (p : Pins) (s : State) where
  pub retransmit : Tells (ReadRise p s × Low p.rt) (retransmits p s.read)
  unfolding retransmits
  retransmit = both (read_rise p s) (low p.rt)

  -- what the tests of 6, 7 and 8 spell out, so that each law on them stands by itself
  pub tells_six : Tells (Row6 p s)
      ((write_rises p s.write || read_rises p s.read) && not p.ld
      && (not p.wen && not p.ren || not p.wen && not p.sen || not p.ren && not p.sen))
  tells_six = three (one (write_rise p s) (read_rise p s)) (low p.ld) (several p.wen p.ren p.sen)

  pub tells_seven : (asks : Method → Bool) → Tells (Low p.sen) (asks Parallel) → Tells (Low p.wen) (asks Serial)
      → Tells (Row7 p s) (write_rises p s.write && not p.ld && asks s.offsets.method)
  tells_seven asks parallel serial = three (write_rise p s) (low p.ld) (unselected asks p parallel serial s.offsets.method)

  pub tells_eight : Tells (Row8 p s) (retransmits p s.read && (not p.ren || not p.wen || not (last_fall_clean p s.enables)))
  unfolding retransmits
  tells_eight = three (read_rise p s) (low p.rt) (one (one (low p.ren) (low p.wen)) (unclean p s.enables))

  pub row_five : Tells (Row5 p s) (refuses_five p s)
  row_five = both (low s.started) (high p.mrs)

  pub row_six : Tells (Row6 p s) (refuses_six p s)
  unfolding refuses_six
  row_six = tells_six

  pub row_seven : Tells (Row7 p s) (refuses_seven p s)
  unfolding refuses_seven
  row_seven = tells_seven (λ method. asks_unselected method p) (low p.sen) (low p.wen)

  pub row_eight : Tells (Row8 p s) (refuses_eight p s)
  unfolding refuses_eight
  row_eight = tells_eight

  row_nine : (accepted : ℕ) (part : Part) → Tallies accepted s.write → Tells (Row9 accepted part p s) (refuses_nine (depth_of part) p s)
  unfolding retransmits
  row_nine accepted part t =
      rw (nine_exact accepted part p s t)
      (three (read_rise p s) (low p.rt) (one (same accepted 0) (more_than_most part s.read.mode accepted)))

  pub row_ten : Tells (Row10 p s) (refuses_ten p s)
  unfolding refuses_ten
  row_ten = four (write_rise p s) (high p.ld) (low p.wen) (unseen s.write.view)

  pub row_twelve : Tells (Row12 p s) (refuses_twelve p s)
  unfolding refuses_twelve
  row_twelve = three (write_rise p s) (low p.wen) (high p.unsettled)

-- one row, and the same of one that applies only outside reset
given : {Row Further : Type 0} {test : Bool} {k : ℕ} (number otherwise : ℕ) → Tells Row test → k ≡ cond test number otherwise
    → (k ≡ otherwise → Further) → Given k number Row Further
given number otherwise (yes x) e further = inl (x, e)
given number otherwise (no x) e further = inr (x, further e)

given_outside : {Out Row Further : Type 0} {outside test : Bool} {k : ℕ} (number otherwise : ℕ) → Tells Out outside → Tells Row test
    → k ≡ cond outside (cond test number otherwise) 0 → (k ≡ cond outside otherwise 0 → Further) → Given k number (Out × Row) Further
given_outside number otherwise (yes o) (yes x) e further = inl ((o, x), e)
given_outside number otherwise (yes o) (no x) e further = inr (λ z. x z.1, further e)
given_outside number otherwise (no o) t e further = inr (λ z. o z.0, further e)

once : {Row Further Other : Type 0} {a b number : ℕ} → Given a number Row Further → Given b number Row Other → (Further → Other → a ≡ b) → a ≡ b
once (inl x) (inl y) further = x.1 ∙ sym y.1
once (inl x) (inr y) further = absurd (y.0 x.0)
once (inr x) (inl y) further = absurd (x.0 y.0)
once (inr x) (inr y) further = further x.1 y.1

module _ (accepted : ℕ) (part : Part) (p : Pins) (s : State) where
  pub first_by : {five six seven eight twelve : Bool} → Tallies accepted s.write → Tells (Row5 p s) five → Tells (Row6 p s) six
      → Tells (Row7 p s) seven → Tells (Row8 p s) eight → Tells (Row12 p s) twelve → (k : ℕ)
      → k ≡ cond five 5 (cond (p.mrs && p.prs) (cond six 6 (cond seven 7 (cond eight 8
      (cond (refuses_nine (depth_of part) p s) 9 (cond (refuses_ten p s) 10 (cond twelve 12 0)))))) 0)
      → FirstRow accepted part p s k
  first_by t five six seven eight twelve k e =
      let outside = both (high p.mrs) (high p.prs) in
      given 5 _ five e λ e.
      given_outside 6 _ outside six e λ e.
      given_outside 7 _ outside seven e λ e.
      given_outside 8 _ outside eight e λ e.
      given_outside 9 _ outside (row_nine p s accepted part t) e λ e.
      given_outside 10 _ outside (row_ten p s) e λ e.
      given_outside 12 _ outside twelve e λ e.
      e ∙ either (λ (k : ℕ). k ≡ 0) (p.mrs && p.prs) 0 0 refl refl

  pub first_row : Tallies accepted s.write → (k : ℕ) → k ≡ refusal_of part p s → FirstRow accepted part p s k
  unfolding refusal_of refuses_six refuses_seven refuses_eight refuses_twelve
  first_row t =
      first_by t (both (low s.started) (high p.mrs)) (tells_six p s) (tells_seven p s (λ method. asks_unselected method p) (low p.sen) (low p.wen))
      (tells_eight p s) (three (write_rise p s) (low p.wen) (high p.unsettled))

  one_number : (a b : ℕ) → FirstRow accepted part p s a → FirstRow accepted part p s b → a ≡ b
  one_number a b x y =
      once x y λ x y. once x y λ x y. once x y λ x y. once x y λ x y. once x y λ x y. once x y λ x y. once x y λ e f. e ∙ sym f

  -- the number is given if and only if its row holds and none before it does; 0 if and only if none holds
  pub exactly_when : Tallies accepted s.write → (k : ℕ) → (k ≡ refusal_of part p s) ↔ FirstRow accepted part p s k
  unfolding refusal_of refuses_six refuses_seven refuses_eight refuses_twelve
  exactly_when t k =
      let first : (k : ℕ) → k ≡ refusal_of part p s → FirstRow accepted part p s k =
      first_by t (both (low s.started) (high p.mrs)) (tells_six p s) (tells_seven p s (λ method. asks_unselected method p) (low p.sen) (low p.wen))
      (tells_eight p s) (three (write_rise p s) (low p.wen) (high p.unsettled)) in
      (first k, λ x. one_number k (refusal_of part p s) x (first (refusal_of part p s) refl))
