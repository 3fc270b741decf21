-- Resets, sentence by sentence. Trace sample: the state at power-up passes 3.
use Rattle.std.specs.Prelude.{ℕ, ◌/◌, Bool, true, false, not, cond, ◌&&◌, List, ◌≡◌, None}
use Rattle.std.proofs.Common.{true≢false, sym, le-ltb, ne_eqb, arith}
use Rattle.std.proofs.Math.Path.{refl}
use Rattle.std.proofs.Math.Dec.{leb-zero}
use Rattle.counts.specs.declared.part.Part.{Part}
use Rattle.counts.specs.Part.{depth_of}
use Rattle.counts.specs.Sized.{Sized, part_sized}
use Rattle.offsets.specs.Fits.{defaults_fit}
use Rattle.offsets.specs.Reading.{ended}
use Rattle.offsets.specs.Registers.{defaults}
use Rattle.offsets.specs.declared.reading.Reading.{Reading}
use Rattle.offsets.specs.declared.registers.Next.{Next}
use Rattle.offsets.specs.declared.registers.Next.TheVariants.{N}
use Rattle.offsets.specs.declared.registers.Method.TheVariants.{Parallel, Serial}
use Rattle.offsets.specs.declared.registers.Offsets.{Offsets}
use Rattle.pins.specs.declared.answer.Lines.{Lines}
use Rattle.pins.specs.declared.record.Pins.{Pins}
use Rattle.sides.specs.declared.read.Mode.{Mode}
use Rattle.sides.specs.declared.read.Mode.TheVariants.{Standard, Fwft}
use Rattle.sides.specs.Read.{mode_after, read_after, ready, sees_word}
use Rattle.sides.specs.Write.{full}
use Rattle.views.specs.Flags.{full_at, hf_low}
use Rattle.views.specs.declared.retransmit.Setup.TheVariants.{Over}
use Rattle.views.specs.declared.retransmit.View.TheVariants.{Seen}
use Rattle.chip.specs.declared.enables.Enables.{Enables}
use Rattle.chip.specs.declared.state.State.{State}
use Rattle.chip.specs.Advance.{memory_after, running, state_after, store_of}
use Rattle.chip.specs.Answer.{lines_of}
use Rattle.chip.specs.Enables.{enables_after}
use Rattle.chip.specs.Levels.{High, Low}
use Rattle.chip.specs.Reset.{cleared, kept_mode, master_reset, partial_reset, powered_up, selected_mode}
use Rattle.chip.specs.State.{in_reach, passes, widths}

abbrev pub is_fwft : Mode → Bool
is_fwft Standard = false
is_fwft (Fwft untaken) = true

-- not full, no word ready, the other flags, and a cleared output register
abbrev pub ShowsReset : Bool → Lines → Type 0
ShowsReset fwft l =
    (l.ff ≡ not fwft) × (l.ef ≡ fwft) × (l.hf ≡ true) × (l.pae ≡ false) × (l.paf ≡ true) × (l.q ≡ 0)

-- with no word in memory, for any depth
none_full : (depth : ℕ) → Sized depth → full_at depth 0 ≡ false
none_full depth z = ne_eqb 0 depth (λ e. omega (arith, z.some))

none_half : (depth : ℕ) → hf_low depth 0 ≡ false
none_half depth = le-ltb (depth / 2) 0 (omega arith)

cleared_flags : (part : Part) (mode : Mode) (oe started wclk rclk : Bool) (o : Offsets) (next : Next) (enables : Enables)
    → ShowsReset (is_fwft mode) (lines_of part oe (cleared started wclk rclk (kept_mode mode) o (ended next) enables))
unfolding lines_of cleared full ready sees_word
cleared_flags part Standard oe started wclk rclk o next enables =
    simp (none_full (depth_of part) (part_sized part), none_half) (refl, refl, refl, refl, refl, refl)
cleared_flags part (Fwft untaken) oe started wclk rclk o next enables =
    simp (none_full (depth_of part) (part_sized part), none_half) (refl, refl, refl, refl, refl, refl)

selected_flags : (part : Part) (oe : Bool) (p : Pins) (enables : Enables) (fwft : Bool)
    → ShowsReset fwft (lines_of part oe (cleared true p.wclk p.rclk (selected_mode fwft) (defaults p.ld) (ended N) enables))
selected_flags part oe p enables true = cleared_flags part (Fwft false) oe true p.wclk p.rclk (defaults p.ld) N enables
selected_flags part oe p enables false = cleared_flags part Standard oe true p.wclk p.rclk (defaults p.ld) N enables

pub selected_fwft : (fwft : Bool) → is_fwft (selected_mode fwft) ≡ fwft
selected_fwft true = refl
selected_fwft false = refl

pub kept_fwft : (mode : Mode) → is_fwft (kept_mode mode) ≡ is_fwft mode
kept_fwft Standard = refl
kept_fwft (Fwft untaken) = refl

-- outside reset too
pub stays_fwft : (mode : Mode) (retransmitted delivered taken : Bool) → is_fwft mode ≡ is_fwft (mode_after mode retransmitted delivered taken)
stays_fwft Standard retransmitted delivered taken = refl
stays_fwft (Fwft untaken) retransmitted delivered taken = refl

-- whatever the clocks do in it, a reset leaves their levels, no count, no stage, nothing remembered of a rise and no retransmit in progress
pub record Cleared (p : Pins) (after : State) : Type 0 where
  pub wclk : after.write.level ≡ p.wclk
  pub rclk : after.read.level ≡ p.rclk
  pub counts : (after.write.count.0 ≡ 0) × (after.read.count.0 ≡ 0)
  pub write_stages : (after.write.first.0 ≡ 0) × (after.write.second.0 ≡ 0)
  pub read_stages : (after.read.first.0 ≡ 0) × (after.read.second.0 ≡ 0)
  pub latest : (after.write.latest ≡ None) × (after.read.latest ≡ None)
  pub retransmit : (after.write.view ≡ Seen) × (after.read.setup ≡ Over)
  pub output : after.read.output ≡ 0

all_cleared : (p : Pins) (started : Bool) (mode : Mode) (o : Offsets) (reading : Reading) (enables : Enables)
    → Cleared p (cleared started p.wclk p.rclk mode o reading enables)
unfolding cleared
all_cleared p started mode o reading enables = record {
  wclk = refl;
  rclk = refl;
  counts = (refl, refl);
  write_stages = (refl, refl);
  read_stages = (refl, refl);
  latest = (refl, refl);
  retransmit = (refl, refl);
  output = refl;
}

reset_by : (P : State → Type 0) (mrs prs : Bool) (run kept fresh : State) → mrs && prs ≡ false → P kept → P fresh → P (cond mrs (cond prs run kept) fresh)
reset_by P true true run kept fresh e k f = absurd (true≢false e)
reset_by P true false run kept fresh e k f = k
reset_by P false prs run kept fresh e k f = f

mode_by : (mrs prs : Bool) (run kept fresh : State) {before fwft : Bool} → is_fwft run.read.mode ≡ before → is_fwft kept.read.mode ≡ before
    → is_fwft fresh.read.mode ≡ fwft → is_fwft (cond mrs (cond prs run kept) fresh).read.mode ≡ cond mrs before fwft
mode_by true true run kept fresh r k f = r
mode_by true false run kept fresh r k f = k
mode_by false prs run kept fresh r k f = f

module _ (part : Part) (p : Pins) (fetched : ℕ) (s : State) where
  pub master_wins : Low p.mrs → state_after part p fetched s ≡ master_reset p s
  unfolding state_after
  master_wins e = simp e

  -- FWFT LOW selects Standard
  pub master_flags : (oe : Bool) → Low p.mrs → ShowsReset p.fwft (lines_of part oe (state_after part p fetched s))
  unfolding master_reset
  master_flags oe e = rw (master_wins e) (selected_flags part oe p (enables_after p s.enables) p.fwft)

  pub partial_flags : (oe : Bool) → High p.mrs → Low p.prs → ShowsReset (is_fwft s.read.mode) (lines_of part oe (state_after part p fetched s))
  unfolding state_after partial_reset
  partial_flags oe e f = simp (e, f) (cleared_flags part s.read.mode oe s.started p.wclk p.rclk s.offsets s.reading.next (enables_after p s.enables))

  pub reset_clears : p.mrs && p.prs ≡ false → Cleared p (state_after part p fetched s)
  unfolding state_after master_reset partial_reset
  reset_clears e = reset_by (Cleared p) p.mrs p.prs (running part p fetched s) (partial_reset p s) (master_reset p s) e
      (all_cleared _ _ _ _ _ _) (all_cleared _ _ _ _ _ _)

  -- whatever PRS is
  pub master_renews : Low p.mrs → let after = state_after part p fetched s in
      (after.started ≡ true) × (is_fwft after.read.mode ≡ p.fwft) × (after.offsets.n ≡ cond p.ld 1023 127) × (after.offsets.m ≡ cond p.ld 1023 127)
      × (after.offsets.method ≡ cond p.ld Serial Parallel) × (after.offsets.next ≡ N) × (after.offsets.count ≡ 0) × (after.reading ≡ ended N)
  unfolding state_after master_reset cleared defaults
  master_renews e = simp e (refl, selected_fwft p.fwft, refl, refl, refl, refl, refl, refl)

  pub partial_keeps : High p.mrs → Low p.prs → let after = state_after part p fetched s in
      (after.started ≡ s.started) × (is_fwft after.read.mode ≡ is_fwft s.read.mode) × (after.offsets ≡ s.offsets) × (after.reading ≡ ended s.reading.next)
  unfolding state_after partial_reset cleared
  partial_keeps e f = simp (e, f) (refl, kept_fwft s.read.mode, refl, refl)

  -- a Master Reset alone selects the timing mode
  pub mode_follows : is_fwft (state_after part p fetched s).read.mode ≡ cond p.mrs (is_fwft s.read.mode) p.fwft
  unfolding state_after running read_after partial_reset master_reset cleared
  mode_follows =
      mode_by p.mrs p.prs (running part p fetched s) (partial_reset p s) (master_reset p s)
      (sym (stays_fwft s.read.mode _ _ _)) (kept_fwft s.read.mode) (selected_fwft p.fwft)

pub memory_stays : (part : Part) (p : Pins) (s : State) (memory : List ℕ) → p.mrs && p.prs ≡ false → memory_after part p s memory ≡ memory
unfolding memory_after store_of
memory_stays part p s memory e = simp e

pub power_up_passes : (part : Part) → passes part powered_up ≡ true
unfolding passes widths in_reach powered_up cleared
power_up_passes part = simp (defaults_fit part false, leb-zero (depth_of part))
