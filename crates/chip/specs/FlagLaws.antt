-- The two sides: the level of each flag, from the numbers that the rule names.
use Rattle.std.specs.Prelude.{ℕ, ◌-◌, ◌/◌, ◌≤◌, ◌<◌, Bool, not, ◌≢◌, ◌↔◌, ◌≡◌, refl}
use Rattle.std.proofs.Math.Bool.{true}
use Rattle.std.proofs.Common.{◌∙◌, arith}
use Rattle.std.proofs.Math.Path.{sym}
use Rattle.counts.specs.declared.part.Part.{Part}
use Rattle.counts.specs.Part.{depth_of}
use Rattle.pins.specs.declared.record.Pins.{Pins}
use Rattle.pins.specs.Laws.{laid}
use Rattle.pins.specs.Record.{bit}
use Rattle.sides.specs.declared.read.Mode.TheVariants.{Standard, Fwft}
use Rattle.sides.specs.Clocks.{read_rises, write_rises}
use Rattle.sides.specs.Read.{read_after, ready, sees_word, table_of}
use Rattle.sides.specs.Write.{full, write_after}
use Rattle.views.specs.declared.retransmit.Setup.{Setup}
use Rattle.views.specs.declared.retransmit.Setup.TheVariants.{Over, OneMore, TwoMore}
use Rattle.views.specs.Retransmit.{is_over, setup_after}
use Rattle.views.specs.TableLaws.{hf_in_row}
use Rattle.views.specs.Tables.{beyond_memory, has_row, hf_level, row_at}
use Rattle.chip.specs.declared.state.State.{State}
use Rattle.chip.specs.Advance.{running, state_after}
use Rattle.chip.specs.Answer.{answer_of, lines_of}
use Rattle.chip.specs.Levels.{High, Low, Outside, ReadRise, WriteRise, less_round}
use Rattle.chip.specs.State.{words_held}
use Rattle.chip.specs.Tells.{Tells, yes, no, at_most, both, fails, high_where, low_where, none, read_rise, same, write_rise}

over : (setup : Setup) → Tells (setup ≡ Over) (is_over setup)
over Over = yes refl
over OneMore = no (λ e. let z : ◌≡◌ {A = ℕ} 0 1 = cc in omega arith)
over TwoMore = no (λ e. let z : ◌≡◌ {A = ℕ} 0 1 = cc in omega arith)

module _ (part : Part) (p : Pins) (fetched : ℕ) (s : State) (outside : Outside p) where
  -- by the offset from before the sample, whatever the sample loads
  pub paf_judged : WriteRise p s → let w = (state_after part p fetched s).write in
      Low w.paf ↔ (depth_of part - s.offsets.m ≤ less_round w.count.0 w.second.0)
  unfolding state_after running write_after write_rises
  paf_judged rise = simp (outside.0, outside.1, rise.0, rise.1) (low_where (at_most _ _))

  pub paf_held : ¬ WriteRise p s → (state_after part p fetched s).write.paf ≡ s.write.paf
  unfolding state_after running write_after
  paf_held still = simp (outside.0, outside.1, fails (write_rise p s) still)

  -- at a rise of RCLK at which no retransmit's setup runs on
  abbrev pub Judged : Type 0
  Judged = ReadRise p s × ((state_after part p fetched s).read.setup ≡ Over)

  pub pae_judged : Judged → let r = (state_after part p fetched s).read in
      Low r.pae ↔ (less_round r.second.0 r.count.0 ≤ s.offsets.n)
  unfolding state_after running read_after read_rises
  pae_judged (rise, done) =
      let again : setup_after true p.rt s.read.setup ≡ Over = simp (outside.0, outside.1, rise.0, rise.1) at done in
      simp (outside.0, outside.1, rise.0, rise.1, again) (low_where (at_most _ _))

  pub pae_held : ¬ Judged → (state_after part p fetched s).read.pae ≡ s.read.pae
  unfolding state_after running read_after
  pae_held not-judged =
      let waits : ¬ (ReadRise p s × (setup_after (read_rises p s.read) p.rt s.read.setup ≡ Over)) = simp (outside.0, outside.1) at not-judged in
      simp (outside.0, outside.1, fails (both (read_rise p s) (over _)) waits)

module _ (part : Part) (p : Pins) (s : State) where
  -- HF, at all times
  pub half_full : Low (bit 21 (answer_of part p s)) ↔ (depth_of part / 2 < less_round s.write.count.0 s.read.count.0)
  unfolding answer_of lines_of
  half_full = rw (laid (lines_of part p.oe s)).hf (low_where (at_most _ _))

  -- and so by the table of the mode: the column in the row of the words in memory
  pub hf_in_table : let o = s.offsets in has_row (depth_of part) o.n o.m (words_held s) ≡ true
      → bit 21 (answer_of part p s) ≡ hf_level (row_at (beyond_memory (table_of s.read.mode)) (depth_of part) o.n o.m (words_held s))
  unfolding answer_of lines_of
  hf_in_table found =
      (laid (lines_of part p.oe s)).hf
      ∙ sym (hf_in_row (beyond_memory (table_of s.read.mode)) (depth_of part) s.offsets.n s.offsets.m (words_held s) found)

  -- FF LOW when full; EF LOW when the second stage equals the read count, and in a retransmit's setup
  pub standard_flags : s.read.mode ≡ Standard
      → (Low (bit 23 (answer_of part p s)) ↔ (less_round s.write.count.0 s.write.second.0 ≡ depth_of part))
      × (High (bit 22 (answer_of part p s)) ↔ ((s.read.setup ≡ Over) × (s.read.second.0 ≢ s.read.count.0)))
  unfolding answer_of lines_of full ready sees_word
  standard_flags e =
      let l = laid (lines_of part p.oe s) in
      rw (l.ff, l.ef) (simp e (low_where (same _ _), high_where (both (over s.read.setup) (none (same _ _)))))

  -- IR HIGH when full; OR LOW while the output register holds an untaken word
  pub fwft_flags : (untaken : Bool) → s.read.mode ≡ Fwft untaken
      → (High (bit 23 (answer_of part p s)) ↔ (less_round s.write.count.0 s.write.second.0 ≡ depth_of part))
      × (bit 22 (answer_of part p s) ≡ not untaken)
  unfolding answer_of lines_of full ready
  fwft_flags untaken e =
      let l = laid (lines_of part p.oe s) in
      rw (l.ff, l.ef) (simp e (high_where (same _ _), refl))

  -- PAE and PAF as they are kept; driven exactly when OE is LOW
  pub kept_given : (bit 20 (answer_of part p s) ≡ s.read.pae) × (bit 19 (answer_of part p s) ≡ s.write.paf) × (bit 18 (answer_of part p s) ≡ not p.oe)
  unfolding answer_of lines_of
  kept_given = let l = laid (lines_of part p.oe s) in (l.pae, l.paf, l.driven)
