-- Without a rise of its own clock a side is held but for its level, what it remembers of the other clock, and its view.
use Rattle.std.specs.Prelude.{ℕ, true, false, ◌≡◌, refl}
use Rattle.std.proofs.Math.Bool.{or-false}
use Rattle.pins.specs.declared.record.Pins.{Pins}
use Rattle.sides.specs.declared.read.Mode.{Mode}
use Rattle.sides.specs.declared.read.Mode.TheVariants.{Standard, Fwft}
use Rattle.sides.specs.declared.read.ReadSide.{ReadSide}
use Rattle.sides.specs.declared.write.WriteSide.{WriteSide}
use Rattle.sides.specs.Clocks.{read_rises, write_rises}
use Rattle.sides.specs.Held.{held_read, held_write}
use Rattle.sides.specs.Read.{delivers, delivers_by, mode_after, read_after, read_count_after, reads, retransmits, second_after_read}
use Rattle.sides.specs.Write.{accepts, second_after_write, write_after, write_count_after}
use Rattle.views.specs.Retransmit.{view_after}
use Rattle.views.specs.Stages.{rise_after}

pub write_held : (depth m : ℕ) (p : Pins) (r : ReadSide) (w : WriteSide) → write_rises p w ≡ false
    → write_after depth m p r w
    ≡ held_write p.wclk (rise_after false (read_rises p r) r.count w.latest) (view_after (retransmits p r) false false w.view) w
unfolding write_after write_count_after second_after_write accepts
write_held depth m p r w e = simp (e, or-false)

mode_kept : (mode : Mode) → mode_after mode false false false ≡ mode
mode_kept Standard = refl
mode_kept (Fwft true) = refl
mode_kept (Fwft false) = refl

-- no read and no word that may come: none is delivered
pub none_by : (mode : Mode) → delivers_by mode false false ≡ false
none_by Standard = refl
none_by (Fwft untaken) = refl

pub read_held : (n : ℕ) (p : Pins) (fetched : ℕ) (w : WriteSide) (r : ReadSide) → read_rises p r ≡ false
    → read_after n p fetched w r ≡ held_read p.rclk (rise_after false (write_rises p w) w.count r.latest) r
unfolding read_after read_count_after second_after_read retransmits delivers reads
read_held n p fetched w r e = simp (e, none_by r.mode, mode_kept r.mode)
