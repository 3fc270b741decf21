-- Retransmit, on the read side: what the rise with RT LOW does.
use Rattle.std.specs.Prelude.{ℕ, Bool, true, false, ◌≡◌, refl}
use Rattle.std.proofs.Math.Bool.{and-false}
use Rattle.pins.specs.declared.record.Pins.{Pins}
use Rattle.sides.specs.declared.read.Mode.{Mode}
use Rattle.sides.specs.declared.read.Mode.TheVariants.{Standard, Fwft}
use Rattle.sides.specs.declared.read.ReadSide.{ReadSide}
use Rattle.sides.specs.declared.write.WriteSide.{WriteSide}
use Rattle.sides.specs.Clocks.{read_rises}
use Rattle.sides.specs.HeldLaws.{none_by}
use Rattle.sides.specs.Read.{delivers, mode_after, read_after, read_count_after, reads, ready, ready_by, retransmits, sees_word}

pub record Retransmitted (r after : ReadSide) : Type 0 where
  pub count : after.count.0 ≡ 0
  pub output : after.output ≡ r.output
  pub pae : after.pae ≡ r.pae
  pub ready : ready after ≡ false

pub none_ready : (mode : Mode) (delivered read : Bool) → ready_by (mode_after mode true delivered read) false ≡ false
none_ready Standard delivered read = refl
none_ready (Fwft untaken) delivered read = refl

none_delivered : (p : Pins) (r : ReadSide) → read_rises p r ≡ true → p.rt ≡ false → delivers p r ≡ false
unfolding delivers reads
none_delivered p r e low = simp (e, low, and-false) (none_by r.mode)

pub retransmitted : (n : ℕ) (p : Pins) (fetched : ℕ) (w : WriteSide) (r : ReadSide) → read_rises p r ≡ true → p.rt ≡ false
    → Retransmitted r (read_after n p fetched w r)
unfolding read_after read_count_after retransmits ready sees_word
retransmitted n p fetched w r e low = record {
  count = simp (e, low);
  output = simp (none_delivered p r e low);
  pae = simp (e, low);
  ready = simp (e, low, none_ready r.mode);
}
