-- The two sides, RCLK rise: no word is delivered that is not seen, and in FWFT none that is long seen is left undelivered.
use Rattle.std.specs.Prelude.{ℕ, ◌+◌, ◌≤◌, ◌<◌, Bool, true, false, not, cond, ◌&&◌, ◌||◌, ◌≡◌, refl}
use Rattle.std.proofs.Math.Bool.{and-false}
use Rattle.std.proofs.Common.{true≢false, arith}
use Rattle.pins.specs.declared.record.Pins.{Pins}
use Rattle.sides.specs.declared.read.Mode.{Mode}
use Rattle.sides.specs.declared.read.Mode.TheVariants.{Standard, Fwft}
use Rattle.sides.specs.declared.read.ReadSide.{ReadSide}
use Rattle.sides.specs.Clocks.{read_rises}
use Rattle.sides.specs.HeldLaws.{none_by}
use Rattle.sides.specs.Read.{delivers, delivers_by, mode_after, reads, ready, ready_by, sees_word}
use Rattle.sides.specs.Tracks.{Owes, next_true}
use Rattle.views.specs.declared.retransmit.Setup.{Setup}
use Rattle.views.specs.declared.retransmit.Setup.TheVariants.{Over, OneMore, TwoMore}
use Rattle.views.specs.Retransmit.{is_over}
use Rattle.views.specs.TrueCounts.{MayMove, Setting, TrueCounts}

-- no word seen, none delivered
pub unseen_by : (mode : Mode) (may asked seen : Bool) → seen ≡ false → delivers_by mode (may && seen) (asked && ready_by mode seen) ≡ false
unseen_by Standard may asked seen e = simp (e, and-false)
unseen_by (Fwft untaken) may asked seen e = simp (e, and-false)

pub none_unseen : (p : Pins) (r : ReadSide) → sees_word r ≡ false → delivers p r ≡ false
unfolding delivers reads ready
none_unseen p r = unseen_by r.mode (read_rises p r && p.rt) (read_rises p r && p.ld && not p.ren && p.rt) (sees_word r)

pub none_still : (p : Pins) (r : ReadSide) → read_rises p r ≡ false → delivers p r ≡ false
unfolding delivers reads
none_still p r e = simp e (none_by r.mode)

-- with no word seen at a rise, nothing that was accepted four rises ago is undelivered
owes_by : (seen keeps : Bool) (four_ago read : ℕ) → (seen ≡ false → four_ago ≤ read)
    → Owes (Fwft (seen && not keeps || keeps)) four_ago (cond (seen && not keeps) (read + 1) read)
owes_by true true four_ago read h = tt
owes_by true false four_ago read h = tt
owes_by false true four_ago read h = tt
owes_by false false four_ago read h = h refl

owes_still : (mode : Mode) (four_ago read : ℕ) → Owes mode four_ago read → Owes (mode_after mode false false false) four_ago read
owes_still Standard four_ago read h = tt
owes_still (Fwft true) four_ago read h = tt
owes_still (Fwft false) four_ago read h = h

pub owes_after : (mode : Mode) (rises ld ren rt seen : Bool) (three_ago four_ago read : ℕ) → Owes mode four_ago read → (seen ≡ false → three_ago ≤ read)
    → let reading = rises && ld && not ren && rt && ready_by mode seen in let delivered = delivers_by mode (rises && rt && seen) reading in
    let back = rises && not rt in
    Owes (mode_after mode back delivered reading) (cond back 0 (cond rises three_ago four_ago)) (next_true back delivered read)
owes_after Standard rises ld ren rt seen three_ago four_ago read h k = tt
owes_after (Fwft untaken) true ld ren false seen three_ago four_ago read h k = omega arith
owes_after (Fwft untaken) true ld ren true seen three_ago four_ago read h k = owes_by seen (untaken && not (ld && not ren && true && untaken)) three_ago read k
owes_after (Fwft untaken) false ld ren rt seen three_ago four_ago read h k = owes_still (Fwft untaken) four_ago read h

-- what was accepted three rises ago is delivered, if no word is seen
pub all_delivered : (setup : Setup) (same : Bool) (t : TrueCounts) → Setting setup t.one_ago t.two_ago t.three_ago
    → t.three_ago ≤ t.read_second → (same ≡ true → t.read_second ≡ t.read) → is_over setup && not same ≡ false → t.three_ago ≤ t.read
all_delivered Over true t s h k e = let f = k refl in omega arith
all_delivered Over false t s h k e = absurd (true≢false e)
all_delivered OneMore same t s h k e = omega arith
all_delivered TwoMore same t s h k e = omega arith

-- where a word may be delivered, the read count that a sample leads to
pub may_move : (depth : ℕ) (rises rt delivered : Bool) (t : TrueCounts) → (rises ≡ false → delivered ≡ false)
    → (delivered ≡ true → t.read < t.read_second) → t.read ≤ t.read_second → (rises && not rt ≡ true → t.written < depth)
    → MayMove rises rt (next_true (rises && not rt) delivered t.read) depth t
may_move depth false rt true t h k o l = absurd (true≢false (h refl))
may_move depth false rt false t h k o l = refl
may_move depth true true true t h k o l = let f = k refl in omega arith
may_move depth true true false t h k o l = omega arith
may_move depth true false delivered t h k o l = (refl, l refl)
