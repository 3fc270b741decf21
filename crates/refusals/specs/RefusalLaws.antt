-- What is turned away: which numbers there are, and what a sample that is taken outside reset does not ask for.
use Rattle.std.specs.Prelude.{ℕ, suc, ◌-◌, ◌<◌, Bool, true, false, cond, ◌&&◌, ◌≡◌, refl}
use Rattle.std.proofs.Math.Bool.{and-eq-true_iff}
use Rattle.std.proofs.Common.{inl, inr, sym, arith}
use Rattle.counts.specs.declared.part.Part.{Part}
use Rattle.counts.specs.Either.{either}
use Rattle.counts.specs.Part.{depth_of}
use Rattle.counts.specs.Sized.{part_sized}
use Rattle.pins.specs.declared.record.Pins.{Pins}
use Rattle.sides.specs.declared.read.Mode.{Mode}
use Rattle.sides.specs.declared.read.Mode.TheVariants.{Standard, Fwft}
use Rattle.sides.specs.SinceReset.{Tallies}
use Rattle.sides.specs.Tracks.{Allowed}
use Rattle.views.specs.TrueCounts.{TrueCounts}
use Rattle.chip.specs.declared.state.State.{State}
use Rattle.chip.specs.Tells.{both, fails, high, high_where, low, three, write_rise}
use Rattle.refusals.specs.Refuse.{asks_unselected, refusal_of, refuses_eight, refuses_five, refuses_nine, refuses_seven, refuses_six, refuses_ten, refuses_twelve}
use Rattle.refusals.specs.RowLaws.{first_by, retransmit, row_ten, tells_eight, tells_seven, tells_six}
use Rattle.refusals.specs.Rows.{FirstRow, Given, most_words}

last : (P : ℕ → Type 0) (row : Bool) (number : ℕ) → (row ≡ true → P number) → P 0 → P (cond row number 0)
last P true number p none = p refl
last P false number p none = none

pub numbers_by : (P : ℕ → Type 0) (five outside six seven eight nine ten twelve : Bool) → P 0 → P 5 → P 6 → P 7 → P 8 → P 9 → P 10
    → (twelve ≡ true → P 12)
    → P (cond five 5 (cond outside (cond six 6 (cond seven 7 (cond eight 8 (cond nine 9 (cond ten 10 (cond twelve 12 0)))))) 0))
numbers_by P a outside b c d e f g none five six seven eight nine ten twelve =
    either P a 5 _ five
    (either P outside _ 0
    (either P b 6 _ six (either P c 7 _ seven (either P d 8 _ eight (either P e 9 _ nine (either P f 10 _ ten (last P g 12 twelve none))))))
    none)

-- what holds of 0 and of each row's number holds of the number given
pub numbers : (P : ℕ → Type 0) (part : Part) (p : Pins) (s : State) → P 0 → P 5 → P 6 → P 7 → P 8 → P 9 → P 10 → (refuses_twelve p s ≡ true → P 12)
    → P (refusal_of part p s)
unfolding refusal_of
numbers P part p s =
    numbers_by P (refuses_five p s) (p.mrs && p.prs) (refuses_six p s) (refuses_seven p s) (refuses_eight p s)
    (refuses_nine (depth_of part) p s) (refuses_ten p s) (refuses_twelve p s)

-- a row that did not give the number does not hold
passed : {Row Further : Type 0} {number : ℕ} → Given 0 (suc number) Row Further → (¬ Row) × Further
passed (inl x) = absurd (omega (arith, x.1))
passed (inr x) = x

not_low : (level : Bool) → ¬ (level ≡ false) → level ≡ true
not_low true n = refl
not_low false n = absurd (n refl)

-- 9 leaves room in memory for one word at least
room_left : (part : Part) (mode : Mode) (written : ℕ) → ¬ (most_words part mode - 2 < written) → written < depth_of part
room_left part Standard written n = omega (arith, (part_sized part).some)
room_left part (Fwft untaken) written n = omega (arith, (part_sized part).some)

pub allowed_by : (part : Part) (p : Pins) (s : State) (t : TrueCounts) → FirstRow t.written part p s 0 → p.mrs && p.prs ≡ true
    → Allowed (depth_of part) p s.write s.read t
unfolding refuses_ten
allowed_by part p s t first outside =
    let high = (and-eq-true_iff p.mrs p.prs).0 outside in
    let eight = passed (passed (passed (passed first).1).1).1 in
    let nine = passed eight.1 in
    let ten = passed nine.1 in
    let back = (high_where (retransmit p s)).0 in
    record {
      seen = fails (row_ten p s) (λ x. ten.0 (high, x));
      few = λ f. room_left part s.read.mode t.written (λ more. nine.0 (high, ((back f).0, (back f).1, inr more)));
      alone = λ f. not_low p.wen (λ low. eight.0 (high, ((back f).0, (back f).1, inl (inr low))));
    }

pub allowed : (part : Part) (p : Pins) (s : State) (t : TrueCounts) → refusal_of part p s ≡ 0 → p.mrs && p.prs ≡ true → Tallies t.written s.write
    → Allowed (depth_of part) p s.write s.read t
unfolding refusal_of refuses_six refuses_seven refuses_eight refuses_twelve
allowed part p s t e outside k =
    let first : FirstRow t.written part p s 0 =
    first_by t.written part p s k (both (low s.started) (high p.mrs)) (tells_six p s)
    (tells_seven p s (λ method. asks_unselected method p) (low p.sen) (low p.wen)) (tells_eight p s)
    (three (write_rise p s) (low p.wen) (high p.unsettled)) 0 (sym e) in
    allowed_by part p s t first outside
