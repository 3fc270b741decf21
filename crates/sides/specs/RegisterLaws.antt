-- The two sides, RCLK rise, and Offsets: which samples deliver a word to the output register, and that no other touches it.
use Rattle.std.specs.Prelude.{ℕ, ◌+◌, ◌%◌, ◌^◌, Bool, true, false, not, ◌&&◌, ◌≢◌, ◌≡◌, refl}
use Rattle.std.proofs.Math.Bool.{and-false, and-true, or-false, or-true}
use Rattle.std.proofs.Common.{true≢false, ◌∙◌}
use borrow.Author.Tests.{eq-eqb, ne_eqb}
use Rattle.counts.specs.Round.{width}
use Rattle.pins.specs.declared.record.Pins.{Pins}
use Rattle.sides.specs.declared.read.Mode.TheVariants.{Standard, Fwft}
use Rattle.sides.specs.declared.read.ReadSide.{ReadSide}
use Rattle.sides.specs.declared.write.WriteSide.{WriteSide}
use Rattle.sides.specs.Clocks.{read_rises}
use Rattle.sides.specs.Read.{delivers, read_after, read_count_after, reads, ready, register_after, retransmits, sees_word}
use Rattle.views.specs.Retransmit.{is_over}

-- a word is delivered: the low 18 bits of what memory holds at the read count
pub record Delivered (fetched : ℕ) (r after : ReadSide) : Type 0 where
  pub output : after.output ≡ fetched % 2 ^ 18
  pub count : after.count.0 ≡ (r.count.0 + 1) % width

-- none is; only a retransmit moves the count then
pub record Left (p : Pins) (r after : ReadSide) : Type 0 where
  pub output : after.output ≡ r.output
  pub count : p.rt ≡ true → after.count ≡ r.count

none_left : (untaken ld ren : Bool) → untaken && not (ld && not ren) ≡ false → untaken && not (ld && not ren && untaken) ≡ false
none_left false ld ren e = refl
none_left true true false e = refl
none_left true true true e = absurd (true≢false e)
none_left true false ren e = absurd (true≢false e)

module _ (n : ℕ) (p : Pins) (fetched : ℕ) (w : WriteSide) (r : ReadSide) where
  abbrev next : ReadSide
  next = read_after n p fetched w r

  sees_by : is_over r.setup ≡ true → r.second.0 ≢ r.count.0 → sees_word r ≡ true
  unfolding sees_word
  sees_by over differ = simp (over, ne_eqb r.second.0 r.count.0 differ)

  sees_none : r.second.0 ≡ r.count.0 → sees_word r ≡ false
  unfolding sees_word
  sees_none same = simp (eq-eqb r.second.0 r.count.0 same, and-false)

  -- `kept` says what the register then holds: each theorem shows it anew, so that each fails alone where it does not hold
  delivered_by : next.output ≡ register_after (delivers p r) fetched r.output → delivers p r ≡ true → p.rt ≡ true → Delivered fetched r next
  unfolding read_after read_count_after retransmits
  delivered_by kept d high = record { output = kept ∙ simp d; count = simp (d, high, and-false) }

  none_by : next.output ≡ register_after (delivers p r) fetched r.output → delivers p r ≡ false → Left p r next
  unfolding read_after read_count_after retransmits
  none_by kept d = record { output = kept ∙ simp d; count = λ high. simp (d, high, and-false) }

  pub left_by : delivers p r ≡ false → Left p r next
  unfolding read_after
  left_by d = none_by refl d

  pub standard_read : r.mode ≡ Standard → read_rises p r ≡ true → p.ld ≡ true → p.ren ≡ false → p.rt ≡ true → ready r ≡ true → Delivered fetched r next
  unfolding read_after delivers reads
  standard_read mode e ld ren rt flag = delivered_by refl (simp (mode, e, ld, ren, rt, flag)) rt

  -- with LD LOW, and with EF LOW before the sample, too
  pub standard_none : r.mode ≡ Standard → read_rises p r && p.ld && not p.ren && p.rt && ready r ≡ false → Left p r next
  unfolding read_after delivers reads
  standard_none mode none = none_by refl (simp (mode, none))

  -- in FWFT a read takes the untaken word; where none is left, whatever LD and REN are, the next comes if the second stage held one before
  module _ (untaken : Bool) (mode : r.mode ≡ Fwft untaken) (e : read_rises p r ≡ true) (rt : p.rt ≡ true)
      (gone : untaken && not (p.ld && not p.ren) ≡ false) where
    -- `kept` as above, and likewise what a read takes
    module _ (kept : next.output ≡ register_after (delivers p r) fetched r.output) (taking : reads p r ≡ p.ld && not p.ren && untaken) where
      comes : delivers p r ≡ sees_word r
      unfolding delivers
      comes = simp (mode, e, rt, taking, none_left untaken p.ld p.ren gone, and-true)

      shows : ready next ≡ sees_word r
      unfolding read_after ready retransmits
      shows = simp (mode, comes, e, rt, taking) (simp (none_left untaken p.ld p.ren gone, or-false))

      pub next_by : is_over r.setup ≡ true → r.second.0 ≢ r.count.0 → Delivered fetched r next × (ready next ≡ true)
      next_by over differ =
          let sees = sees_by over differ in
          (delivered_by kept (comes ∙ sees) rt, shows ∙ sees)

    pub fwft_next : is_over r.setup ≡ true → r.second.0 ≢ r.count.0 → Delivered fetched r next × (ready next ≡ true)
    unfolding read_after reads ready
    fwft_next = next_by refl (simp (mode, e, rt, and-true))

    pub fwft_none : r.second.0 ≡ r.count.0 → Left p r next × (ready next ≡ false)
    unfolding read_after reads ready
    fwft_none same =
        let taking : reads p r ≡ p.ld && not p.ren && untaken = simp (mode, e, rt, and-true) in
        let none = sees_none same in
        (none_by refl (comes refl taking ∙ none), shows refl taking ∙ none)

  -- a word that no read takes stays, an offset read or not, and OR stays LOW but for a retransmit
  pub fwft_held : r.mode ≡ Fwft true → read_rises p r && p.ld && not p.ren ≡ false → Left p r next × (retransmits p r ≡ false → ready next ≡ true)
  unfolding read_after delivers reads ready
  fwft_held mode none = (none_by refl (simp (mode, none, and-false)), λ still. simp (mode, still, none, or-true))
