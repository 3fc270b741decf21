-- Retransmit, on the read side: what comes back at the second and at the third rise after it, and not before.
use Rattle.std.specs.Prelude.{ℕ, zero, suc, ◌<◌, Bool, true, false, not, ◌&&◌, ◌≢◌, ◌≡◌, refl}
use Rattle.std.proofs.Math.Bool.{and-true}
use Rattle.std.proofs.Common.{arith}
use Rattle.pins.specs.declared.record.Pins.{Pins}
use Rattle.sides.specs.declared.read.Mode.{Mode}
use Rattle.sides.specs.declared.read.Mode.TheVariants.{Standard, Fwft}
use Rattle.sides.specs.declared.read.ReadSide.{ReadSide}
use Rattle.sides.specs.declared.write.WriteSide.{WriteSide}
use Rattle.sides.specs.Clocks.{read_rises}
use Rattle.sides.specs.DeliveryLaws.{unseen_by}
use Rattle.sides.specs.FlagLaws.{ReadFlags, read_flags}
use Rattle.sides.specs.HeldLaws.{read_held}
use Rattle.sides.specs.Read.{delivers, mode_after, read_after, read_count_after, reads, ready, ready_by, retransmits, sees_word}
use Rattle.sides.specs.RegisterLaws.{Delivered, next_by}
use Rattle.sides.specs.RetransmitLaws.{none_ready}
use Rattle.views.specs.declared.retransmit.Setup.{Setup}
use Rattle.views.specs.declared.retransmit.Setup.TheVariants.{Over, OneMore, TwoMore}
use Rattle.views.specs.Retransmit.{counted, is_over, just_begun}

-- a read side so many rises of RCLK after a retransmit, before which PAE had the level `pae`
pub data Following (pae : Bool) : ℕ → ReadSide → Type 0 where
  begun : (n : ℕ) (p : Pins) (fetched : ℕ) (w : WriteSide) (r : ReadSide) → read_rises p r ≡ true → p.rt ≡ false → r.pae ≡ pae
      → Following pae 0 (read_after n p fetched w r)
  risen : (k n : ℕ) (p : Pins) (fetched : ℕ) (w : WriteSide) (r : ReadSide) → read_rises p r ≡ true → p.rt ≡ true → Following pae k r
      → Following pae (suc k) (read_after n p fetched w r)
  still : (k n : ℕ) (p : Pins) (fetched : ℕ) (w : WriteSide) (r : ReadSide) → read_rises p r ≡ false → Following pae k r
      → Following pae k (read_after n p fetched w r)

-- what is left of the setup
abbrev left : ℕ → Setup
left zero = TwoMore
left (suc zero) = OneMore
left (suc (suc k)) = Over

left_counted : (k : ℕ) → counted (left k) ≡ left (suc k)
left_counted zero = refl
left_counted (suc zero) = refl
left_counted (suc (suc k)) = refl

begun_once : (k : ℕ) → just_begun (left (suc k)) ≡ false
begun_once zero = refl
begun_once (suc k) = refl

not_over : (k : ℕ) → k < 2 → is_over (left k) ≡ false
not_over zero h = refl
not_over (suc zero) h = refl
not_over (suc (suc k)) h = absurd (omega arith)

still_none : (mode : Mode) (read : Bool) → ready_by mode false ≡ false → ready_by (mode_after mode false false read) false ≡ false
still_none Standard read e = refl
still_none (Fwft untaken) read e = rw e

record Waits (pae : Bool) (k : ℕ) (r : ReadSide) : Type 0 where
  setup : r.setup ≡ left k
  count : k < 3 → r.count.0 ≡ 0
  held : k < 2 → r.pae ≡ pae
  none : k < 3 → ready_by r.mode false ≡ false

-- no word seen, none delivered: shown where a theorem uses it
abbrev NoneUnseen : Type 0
NoneUnseen = (p : Pins) (r : ReadSide) → sees_word r ≡ false → delivers p r ≡ false

module _ (none : NoneUnseen) (pae : Bool) (k : ℕ) (r : ReadSide) (h : Waits pae k r) where
  unseen : k < 2 → sees_word r ≡ false
  unfolding sees_word
  unseen l = rw (h.setup, not_over k)

  module _ (n : ℕ) (p : Pins) (fetched : ℕ) (w : WriteSide) (e : read_rises p r ≡ true) (high : p.rt ≡ true) where
    one_more : Waits pae (suc k) (read_after n p fetched w r)
    unfolding read_after read_count_after retransmits
    one_more = record {
      setup = rw (e, high, h.setup) (left_counted k);
      count = λ l. simp (e, high, none p r (unseen (omega arith))) (h.count (omega arith));
      held = λ l. rw (e, high, h.setup, left_counted k, not_over (suc k)) (h.held (omega arith));
      none = λ l. simp (e, high, none p r (unseen (omega arith))) (still_none r.mode (reads p r) (h.none (omega arith)));
    }

waits_still : (pae : Bool) (k n : ℕ) (p : Pins) (fetched : ℕ) (w : WriteSide) (r : ReadSide) → read_rises p r ≡ false → Waits pae k r
    → Waits pae k (read_after n p fetched w r)
waits_still pae k n p fetched w r e h =
    rw (read_held n p fetched w r e) (record { setup = h.setup; count = h.count; held = h.held; none = h.none })

waits_begun : (pae : Bool) (n : ℕ) (p : Pins) (fetched : ℕ) (w : WriteSide) (r : ReadSide) → read_rises p r ≡ true → p.rt ≡ false → r.pae ≡ pae
    → Waits pae 0 (read_after n p fetched w r)
unfolding read_after read_count_after retransmits
waits_begun pae n p fetched w r e low same = record {
  setup = simp (e, low);
  count = λ l. simp (e, low);
  held = λ l. simp (e, low) same;
  none = λ l. simp (e, low, none_ready r.mode);
}

waits : NoneUnseen → (pae : Bool) (k : ℕ) (r : ReadSide) → Following pae k r → Waits pae k r
waits none pae k r (begun n p fetched w before e low same) = waits_begun pae n p fetched w before e low same
waits none pae k r (risen j n p fetched w before e high f) = one_more none pae j before (waits none pae j before f) n p fetched w e high
waits none pae k r (still j n p fetched w before e f) = waits_still pae j n p fetched w before e (waits none pae j before f)

-- the setup, whatever is delivered
setup_left : (pae : Bool) (k : ℕ) (r : ReadSide) → Following pae k r → r.setup ≡ left k
unfolding read_after
setup_left pae k r (begun n p fetched w before e low same) = simp (e, low)
setup_left pae k r (risen j n p fetched w before e high f) = rw (e, high, setup_left pae j before f) (left_counted j)
setup_left pae k r (still j n p fetched w before e f) = rw e (setup_left pae j before f)

pub just_begun_lem : (pae : Bool) (r : ReadSide) → Following pae 0 r → just_begun r.setup ≡ true
just_begun_lem pae r f = rw (setup_left pae 0 r f)

pub begun_before : (pae : Bool) (k : ℕ) (r : ReadSide) → Following pae (suc k) r → just_begun r.setup ≡ false
begun_before pae k r f = rw (setup_left pae (suc k) r f) (begun_once k)

-- PAE keeps its level and no flag shows a word ready before the second rise, in FWFT none before the third, and no word comes before the third
pub record NotBefore (level : Bool) (k : ℕ) (r : ReadSide) : Type 0 where
  pub pae : k < 2 → r.pae ≡ level
  pub flag : k < 2 → ready r ≡ false
  pub fwft : (untaken : Bool) → r.mode ≡ Fwft untaken → k < 3 → ready r ≡ false
  pub count : k < 3 → r.count.0 ≡ 0

pub not_before : (pae : Bool) (k : ℕ) (r : ReadSide) → Following pae k r → NotBefore pae k r
unfolding delivers reads ready
not_before pae k r f =
    let none : NoneUnseen = λ p r. unseen_by r.mode (read_rises p r && p.rt) (read_rises p r && p.ld && not p.ren && p.rt) (sees_word r) in
    let h = waits none pae k r f in
    record {
      pae = h.held;
      flag = λ l. rw (unseen none pae k r h l) (h.none (omega arith));
      fwft = λ untaken e l. rw e (rw e at (h.none l));
      count = h.count;
    }

module _ (pae : Bool) (n : ℕ) (p : Pins) (fetched : ℕ) (w : WriteSide) (r : ReadSide) (e : read_rises p r ≡ true) (high : p.rt ≡ true) where
  -- from the second on EF and PAE are worked out
  pub from_second : (k : ℕ) → Following pae (suc k) r → ReadFlags n r (read_after n p fetched w r)
  from_second k f =
      read_flags n p fetched w r e (rw (setup_left pae (suc (suc k)) (read_after n p fetched w r) (risen (suc k) n p fetched w r e high f)))

  -- at the third FWFT delivers the word that the second stage held
  pub at_third : (untaken : Bool) → r.mode ≡ Fwft untaken → Following pae 2 r → r.second.0 ≢ r.count.0
      → Delivered fetched r (read_after n p fetched w r) × (ready (read_after n p fetched w r) ≡ true)
  unfolding read_after delivers reads ready
  at_third untaken mode f =
      let none : NoneUnseen = λ p r. unseen_by r.mode (read_rises p r && p.rt) (read_rises p r && p.ld && not p.ren && p.rt) (sees_word r) in
      let h = waits none pae 2 r f in
      let taken : untaken ≡ false = rw mode at (h.none (omega arith)) in
      next_by n p fetched w r untaken mode e high (rw taken) refl (simp (mode, e, high, and-true)) (rw h.setup)
