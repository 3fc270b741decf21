-- The two sides: the flags after a rise of their own clock go by the count after it and by what the first stage held before it,
-- whatever LD and the mode are, and PAF and PAE by the offset handed in; without such a rise PAF and PAE keep their level. Where
-- their count has a row in Table 1 or 2 they show the level in it.
use Rattle.std.specs.Prelude.{ℕ, ◌-◌, ◌≤◌, Bool, true, false, not, ◌&&◌, ◌↔◌, ◌≡◌, refl}
use Rattle.std.proofs.Math.Logic.Iff.{trans}
use Rattle.std.proofs.Common.{ap, sym}
use borrow.Author.Tests.{eq-eqb, eqb-true, not-false}
use Rattle.counts.specs.Round.{ahead}
use Rattle.pins.specs.declared.record.Pins.{Pins}
use Rattle.sides.specs.declared.read.Mode.TheVariants.{Standard, Fwft}
use Rattle.sides.specs.declared.read.ReadSide.{ReadSide}
use Rattle.sides.specs.declared.write.WriteSide.{WriteSide}
use Rattle.sides.specs.Clocks.{read_rises, write_rises}
use Rattle.sides.specs.Read.{read_after, ready, second_after_read, sees_word, table_of}
use Rattle.sides.specs.Write.{full, second_after_write, write_after}
use Rattle.views.specs.FlagLaws.{decided}
use Rattle.views.specs.Retransmit.{is_over}
use Rattle.views.specs.TableLaws.{pae_in_row, paf_in_row}
use Rattle.views.specs.Tables.{beyond_memory, has_row, pae_level, paf_level, row_at}

-- a level that is LOW where a test holds
low_by : {Holds : Type 0} (test : Bool) → (test ≡ true) ↔ Holds → (not test ≡ false) ↔ Holds
low_by test h = trans (not-false test, ap not) h

-- the output word is counted in FWFT alone
pub table_told : (untaken : Bool) → (beyond_memory (table_of Standard) ≡ 0) × (beyond_memory (table_of (Fwft untaken)) ≡ 1)
table_told untaken = (refl, refl)

-- full at any moment: by the second stage
pub full_told : (depth : ℕ) (w : WriteSide) → (full depth w ≡ true) ↔ (ahead w.count w.second ≡ depth)
unfolding full
full_told depth w = (decided depth 0 0 (ahead w.count w.second)).full

pub record WriteFlags (depth m : ℕ) (w after : WriteSide) : Type 0 where
  pub full : (full depth after ≡ true) ↔ (ahead after.count w.first ≡ depth)
  pub paf : (after.paf ≡ false) ↔ (depth - m ≤ ahead after.count w.first)

module _ (depth m : ℕ) (p : Pins) (r : ReadSide) (w : WriteSide) where
  pub write_flags : write_rises p w ≡ true → WriteFlags depth m w (write_after depth m p r w)
  unfolding write_after second_after_write full
  write_flags e =
      let words = ahead (write_after depth m p r w).count w.first in
      record { full = rw e (decided depth m 0 words).full; paf = rw e (low_by _ (decided depth m 0 words).paf) }

  pub paf_kept : write_rises p w ≡ false → (write_after depth m p r w).paf ≡ w.paf
  unfolding write_after
  paf_kept e = rw e

  -- by the table of the mode: the column in the row of the words that the write side counts
  pub paf_in_table : (n : ℕ) → write_rises p w ≡ true → let after = write_after depth m p r w in let words = ahead after.count w.first in
      has_row depth n m words ≡ true → after.paf ≡ paf_level (row_at (beyond_memory (table_of r.mode)) depth n m words)
  unfolding write_after second_after_write
  paf_in_table n e found =
      let words = ahead (write_after depth m p r w).count w.first in
      rw e (sym (paf_in_row (beyond_memory (table_of r.mode)) depth n m words found))

-- EF in Standard, and PAE
pub record ReadFlags (n : ℕ) (r after : ReadSide) : Type 0 where
  pub ef : after.mode ≡ Standard → (ready after ≡ false) ↔ (r.first.0 ≡ after.count.0)
  pub pae : (after.pae ≡ false) ↔ (ahead r.first after.count ≤ n)

module _ (n : ℕ) (p : Pins) (fetched : ℕ) (w : WriteSide) (r : ReadSide) where
  abbrev next : ReadSide
  next = read_after n p fetched w r

  -- save during a retransmit's setup
  pub read_flags : read_rises p r ≡ true → is_over next.setup ≡ true → ReadFlags n r next
  unfolding read_after second_after_read ready sees_word
  read_flags e over = record {
    ef = λ standard. rw (standard, over, e) (low_by _ (eqb-true r.first.0 next.count.0, eq-eqb r.first.0 next.count.0));
    pae = rw (over, e) (low_by _ (decided 0 0 n (ahead r.first next.count)).pae);
  }

  pub pae_in_table : (depth m : ℕ) → read_rises p r ≡ true → is_over next.setup ≡ true → let words = ahead r.first next.count in
      has_row depth n m words ≡ true → next.pae ≡ pae_level (row_at (beyond_memory (table_of r.mode)) depth n m words)
  unfolding read_after second_after_read
  pae_in_table depth m e over found =
      let words = ahead r.first next.count in
      rw (over, e) (sym (pae_in_row (beyond_memory (table_of r.mode)) depth n m words found))

  pub pae_kept : read_rises p r && is_over next.setup ≡ false → next.pae ≡ r.pae
  unfolding read_after
  pae_kept e = rw e
