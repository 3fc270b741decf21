-- The two sides: each flag's decision, made round the width, is the rule's decision on the true counts.
use Rattle.std.specs.Prelude.{ℕ, ◌-◌, Bool, true, false, not, ◌&&◌, ◌≡◌, refl, leb}
use Rattle.std.proofs.Math.Bool.{cond}
use Rattle.std.proofs.Math.Path.{ap}
use Rattle.std.proofs.Math.Dec.{eqb}
use Rattle.std.proofs.Common.{eq-eqb, eqb-true, ne_eqb, arith}
use Rattle.std.proofs.lemmas.Bool.{eqb-false}
use Rattle.counts.specs.Laws.{less_true}
use Rattle.counts.specs.Round.{ahead, width}
use Rattle.counts.specs.Sized.{Sized}
use Rattle.pins.specs.declared.record.Pins.{Pins}
use Rattle.sides.specs.declared.read.ReadSide.{ReadSide}
use Rattle.sides.specs.declared.write.WriteSide.{WriteSide}
use Rattle.sides.specs.Clocks.{read_rises, write_rises}
use Rattle.sides.specs.DecisionLaws.{left_behind}
use Rattle.sides.specs.Read.{read_after, sees_word}
use Rattle.sides.specs.Tracks.{Tracks}
use Rattle.sides.specs.Write.{full, write_after}
use Rattle.views.specs.Retransmit.{is_over}
use Rattle.views.specs.TrueCounts.{TrueCounts}

module _ (depth : ℕ) (z : Sized depth) (w : WriteSide) (r : ReadSide) (t : TrueCounts) (g : Tracks depth w r t) where
  -- words accepted that the write side has not yet seen read
  unseen_words : ahead w.count w.second ≡ t.written - t.write_second
  unseen_words = left_behind depth z w r t g w.second.0 t.write_second g.write_second (omega arith) (omega arith)

  -- words that the read side has seen and not read
  seen_words : ahead r.second r.count ≡ t.read_second - t.read
  seen_words = rw (g.read_second, g.read) (less_true width t.read_second t.read (omega arith) (omega arith))

  pub full_exact : full depth w ≡ eqb (t.written - t.write_second) depth
  unfolding full
  full_exact = ap (λ (words : ℕ). eqb words depth) unseen_words

  same_by : (same : Bool) → eqb t.read_second t.read ≡ same → eqb r.second.0 r.count.0 ≡ same
  same_by true e = eq-eqb r.second.0 r.count.0 (omega (arith, eqb-true t.read_second t.read e))
  same_by false e = ne_eqb r.second.0 r.count.0 (λ same. omega (arith, eqb-false t.read_second t.read e))

  pub sees_exact : sees_word r ≡ is_over r.setup && not (eqb t.read_second t.read)
  unfolding sees_word
  sees_exact = rw (same_by (eqb t.read_second t.read) refl)

module _ (depth : ℕ) (z : Sized depth) (w : WriteSide) (r : ReadSide) (p : Pins) (m n fetched : ℕ) (t : TrueCounts)
    (g : Tracks depth (write_after depth m p r w) (read_after n p fetched w r) t) where
  pub paf_exact : (write_after depth m p r w).paf ≡ cond (write_rises p w) (not (leb (depth - m) (t.written - t.write_second))) w.paf
  unfolding write_after
  paf_exact =
      ap (λ (words : ℕ). cond (write_rises p w) (not (leb (depth - m) words)) w.paf)
      (unseen_words depth z (write_after depth m p r w) (read_after n p fetched w r) t g)

  pub pae_exact : (read_after n p fetched w r).pae
      ≡ cond (read_rises p r && is_over (read_after n p fetched w r).setup) (not (leb (t.read_second - t.read) n)) r.pae
  unfolding read_after
  pae_exact =
      ap (λ (words : ℕ). cond (read_rises p r && is_over (read_after n p fetched w r).setup) (not (leb words n)) r.pae)
      (seen_words depth z (write_after depth m p r w) (read_after n p fetched w r) t g)
