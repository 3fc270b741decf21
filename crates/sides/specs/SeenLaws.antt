-- Retransmit, as the write side sees it: at the second rise of WCLK counted from the first that takes a read count from after it.
use Rattle.std.specs.Prelude.{ℕ, suc, Bool, true, false, ◌≡◌, refl, Option, Some, None}
use Rattle.std.proofs.Math.Bool.{and-false}
use Rattle.counts.specs.declared.round.ReadCount.{ReadCount}
use Rattle.pins.specs.declared.record.Pins.{Pins}
use Rattle.sides.specs.declared.read.ReadSide.{ReadSide}
use Rattle.sides.specs.declared.write.WriteSide.{WriteSide}
use Rattle.sides.specs.Clocks.{read_rises, write_rises}
use Rattle.sides.specs.Read.{retransmits}
use Rattle.sides.specs.SetupLaws.{Following, begun_before, just_begun_lem}
use Rattle.sides.specs.Write.{takes_after, write_after}
use Rattle.views.specs.declared.retransmit.View.{View}
use Rattle.views.specs.declared.retransmit.View.TheVariants.{Unseen, Taken, Seen}
use Rattle.views.specs.Stages.{looks_past}

-- a rise of WCLK and no retransmit in its sample
pub record Looked (p : Pins) (r : ReadSide) (w : WriteSide) (after : View) : Type 0 where
  pub met : w.view ≡ Unseen → p.skew.write ≡ true → after ≡ Taken
  pub alone : w.view ≡ Unseen → w.latest ≡ None → after ≡ Taken
  -- a rise looked past that came after the retransmitting one
  pub later : (pae : Bool) (k : ℕ) → Following pae (suc k) r → w.view ≡ Unseen → after ≡ Taken
  -- the retransmitting rise itself looked past
  pub past : (pae : Bool) (before : ReadCount) → Following pae 0 r → w.view ≡ Unseen → p.skew.write ≡ false → w.latest ≡ Some before → after ≡ Unseen
  pub second : w.view ≡ Taken → after ≡ Seen
  pub seen : w.view ≡ Seen → after ≡ Seen

met_past : (latest : Option ReadCount) → looks_past true latest ≡ false
met_past None = refl
met_past (Some count) = refl

module _ (depth m : ℕ) (p : Pins) (r : ReadSide) (w : WriteSide) where
  pub looked_at : write_rises p w ≡ true → retransmits p r ≡ false → Looked p r w (write_after depth m p r w).view
  unfolding write_after takes_after
  looked_at e none = record {
    met = λ v h. rw (e, none, v, h, met_past w.latest);
    alone = λ v l. rw (e, none, v, l);
    later = λ pae k f v. rw (e, none, v, begun_before pae k r f, and-false);
    past = λ pae before f v h l. rw (e, none, v, h, l, just_begun_lem pae r f);
    second = λ v. rw (e, none, v);
    seen = λ v. rw (e, none, v);
  }

  pub view_kept : write_rises p w ≡ false → retransmits p r ≡ false → (write_after depth m p r w).view ≡ w.view
  unfolding write_after
  view_kept e none = rw (e, none)

  -- a retransmit counts as later than a rise of WCLK in its sample
  pub unseen_again : read_rises p r ≡ true → p.rt ≡ false → (write_after depth m p r w).view ≡ Unseen
  unfolding write_after retransmits
  unseen_again e low = rw (e, low)
