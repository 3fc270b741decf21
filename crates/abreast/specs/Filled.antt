-- Two parts 255 filled from power-up: where so many writes lead them, of zeros into memories of zeros, which stay as they were.
use Prim.Native.Nat.{ℕ, zero, suc, ◌+◌, ◌%◌, ◌≤◌, ◌<◌}
use Rattle.std.specs.Prelude.{Bool, not, cond, List, [], ◌∷◌, ◌++◌, ◌≡◌, eqb, replicate, set, Option, Some, None}
use Rattle.counts.specs.declared.round.WriteCount.{WriteCount}
use Rattle.std.proofs.Math.Bool.{true, false}
use Rattle.std.proofs.Math.Path.{refl, ap}
use Rattle.std.proofs.Common.{subst, ◌∙◌}
use Rattle.std.proofs.lemmas.List.{length-replicate, replicate-append-replicate}
use borrow.Author.Tests.{ne_eqb}
use native.Mathlib.Omega.{arith}
use Rattle.chip.specs.declared.state.State.{State}
use Rattle.chip.specs.Reset.{selected_mode}
use Rattle.counts.specs.declared.part.Part.{Part}
use Rattle.counts.specs.declared.part.Part.TheVariants.{Idt72V255LA as part255}
use Rattle.counts.specs.Round.{less, width}
use Rattle.fifo.specs.Sample.{record_refusal}
use Rattle.offsets.specs.declared.registers.Next.TheVariants.{N}
use Rattle.offsets.specs.Reading.{ended}
use Rattle.offsets.specs.Registers.{defaults}
use Rattle.pins.specs.Record.{pins_of}
use Rattle.sides.specs.Write as write
use Rattle.views.specs.declared.retransmit.Setup.TheVariants.{Over}
use Rattle.views.specs.declared.retransmit.View.TheVariants as view
use Rattle.views.specs.Flags.{paf_low}
use Rattle.views.specs.TrueCounts.{TrueCounts, no_counts}
use Rattle.halves.specs.Two.{two}
use Rattle.history.specs.Asked.{reads_word, taken_next}
use Rattle.history.specs.LedLaws.{counts_led, counts_next, told_after, told_next}
use Rattle.history.specs.Onlooker.{full, reads}
use Rattle.history.specs.TakenLaws.{moved_on, taken_next_lem, takes_free}
use Rattle.history.specs.Tight.{tried, worked, zeros}
use Rattle.history.specs.Told.{Told}
use Rattle.history.specs.Trace.{Moment, at, led, next, power_up, shown_by, takes}
use Rattle.abreast.specs.Abreast.{Records}
use Rattle.abreast.specs.Seen.{Seen, seen, seen_from}

-- Master Reset into Standard or FWFT, a zero written, and WCLK LOW again
abbrev reset_into : Bool → ℕ
reset_into fwft = cond fwft 0x4DD80000 0x4D980000

abbrev zero_written : ℕ
zero_written = 0xE7980000

abbrev wclk_fallen : ℕ
wclk_fallen = 0xCF980000

-- so many writes to both parts, then other samples
unfoldable pub filling : ℕ → List Records → List Records
filling zero later = later
filling (suc n) later = two zero_written zero_written ∷ two wclk_fallen wclk_fallen ∷ filling n later

-- a reset, as many writes as memory is deep, then other samples
abbrev pub filled_then : Bool → List Records → List Records
filled_then fwft later = two (reset_into fwft) (reset_into fwft) ∷ filling 8192 later

-- the read side remembers the last write
abbrev latest_at : ℕ → Option WriteCount
latest_at zero = None
latest_at (suc k) = Some (record { 0 = k })

abbrev filled_state : Bool → Bool → ℕ → State
filled_state fwft level k = record {
  started = true;
  write = record {
    level = level;
    count = record { 0 = k };
    wrapped = false;
    first = record { 0 = 0 };
    second = record { 0 = 0 };
    latest = None;
    view = view.Seen;
    paf = not (paf_low 8192 127 (less width k 0));
  };
  read = record {
    level = false;
    count = record { 0 = 0 };
    first = record { 0 = 0 };
    second = record { 0 = 0 };
    latest = latest_at k;
    setup = Over;
    pae = false;
    mode = selected_mode fwft;
    output = 0;
  };
  offsets = defaults false;
  reading = ended N;
  enables = record { rt = true; ren = true; wen = not level; clean = true };
}

-- after a Master Reset into a mode and so many writes, by the level of WCLK
abbrev pub filled_at : Bool → Bool → ℕ → Moment
filled_at fwft level k =
    at (filled_state fwft level k) zeros (record { wclk = level; rclk = false; fwft = fwft; accepted = replicate k 0; delivered = [] })

set_zero : (n i : ℕ) → set {A = ℕ} (replicate n 0) i 0 ≡ replicate n 0
set_zero zero i = refl
set_zero (suc n) zero = refl
set_zero (suc n) (suc i) = ap (λ (l : List ℕ). 0 ∷ l) (set_zero n i)

memory_kept : (i : ℕ) → set zeros i 0 ≡ zeros
unfolding zeros
memory_kept = set_zero 8192

taken_to : (part : Part) (m after : Moment) (x : ℕ) (t : TrueCounts) → Told part m t → eqb (record_refusal part x m.state) 0 ≡ true
    → moved_on part m (pins_of x) ≡ after
    → (takes part m x ≡ true) × (next part m x ≡ after) × Told part after (counts_next part m x t)
taken_to part m after x t g free leads =
    let taken = takes_free part m t g x ∙ free in
    let there = (taken_next_lem part m t g x taken).0 ∙ leads in
    (taken, there, subst (λ (then : Moment). Told part then (counts_next part m x t)) there (told_next part m t g x))

module _ (k : ℕ) (within : k < 8192) where
  not_full : (fwft : Bool) → write.full 8192 (filled_state fwft false k).write ≡ false
  unfolding write.full
  not_full fwft = ne_eqb ((k + 65536) % 65536) 8192 (λ e. omega (arith, e))

  room_shown : (fwft : Bool) → full fwft (shown_by part255 (filled_state fwft false k)) ≡ false
  unfolding worked
  room_shown false = rw (not_full false) refl
  room_shown true = not_full true

  next_count : (k + 1) % 65536 ≡ suc k
  next_count = omega arith

  never_last : eqb k 65535 ≡ false
  never_last = ne_eqb k 65535 (λ e. omega (arith, e))

  one_zero_more : replicate {A = ℕ} k 0 ++ (0 ∷ []) ≡ replicate (suc k) 0
  one_zero_more = let more : k + 1 ≡ suc k = omega arith in replicate-append-replicate k 1 0 ∙ ap (λ (n : ℕ). replicate {A = ℕ} n 0) more

  write_moved : (fwft : Bool) → moved_on part255 (filled_at fwft false k) (pins_of zero_written) ≡ filled_at fwft true (suc k)
  unfolding worked
  write_moved false = rw (not_full false, next_count, never_last, one_zero_more, memory_kept (k % 8192)) refl
  write_moved true = rw (not_full true, next_count, never_last, one_zero_more, memory_kept (k % 8192)) refl

fall_moved : (fwft : Bool) (k : ℕ) → moved_on part255 (filled_at fwft true k) (pins_of wclk_fallen) ≡ filled_at fwft false k
unfolding worked
fall_moved false k = refl
fall_moved true k = refl

module _ (fwft : Bool) where
  -- what is seen from there on
  abbrev pub seen_filled : ℕ → List Records → Seen
  seen_filled k later = seen_from part255 (filled_at fwft false k) 0 (filled_at fwft false k) 0 later

  seen_more : (later : List Records) (n k : ℕ) (t : TrueCounts) → Told part255 (filled_at fwft false k) t → k + n ≤ 8192
      → seen_filled k (filling n later) ≡ seen_filled (k + n) later
  unfolding filling seen_from taken_next reads_word reads
  seen_more later zero k t g within = let same : k ≡ k + 0 = omega arith in ap (λ (n : ℕ). seen_filled n later) same
  seen_more later (suc n) k t g within =
      let written = taken_to part255 (filled_at fwft false k) (filled_at fwft true (suc k)) zero_written t g (unfold worked in refl) (write_moved k (omega arith) fwft) in
      let fallen = taken_to part255 (filled_at fwft true (suc k)) (filled_at fwft false (suc k)) wclk_fallen _ written.2 (unfold worked in refl) (fall_moved fwft (suc k)) in
      let same : suc k + n ≡ k + suc n = omega arith in
      rw (written.0, written.1, fallen.0, fallen.1, room_shown k (omega arith) fwft)
      (seen_more later n (suc k) _ fallen.2 (omega arith) ∙ ap (λ (n : ℕ). seen_filled n later) same)

reset_leads : (fwft : Bool) → (takes part255 (power_up zeros) (reset_into fwft) ≡ true) × (next part255 (power_up zeros) (reset_into fwft) ≡ filled_at fwft false 0)
unfolding tried
reset_leads false = (refl, refl)
reset_leads true = (refl, refl)

reset_told : (fwft : Bool) → Told part255 (filled_at fwft false 0) (counts_led part255 (power_up zeros) (reset_into fwft ∷ []) no_counts)
unfolding led zeros
reset_told fwft =
    subst (λ (m : Moment). Told part255 m (counts_led part255 (power_up zeros) (reset_into fwft ∷ []) no_counts)) (reset_leads fwft).1
    (told_after part255 zeros (length-replicate {A = ℕ} 8192 0) (reset_into fwft ∷ []))

pub seen_filled_lem : (fwft : Bool) (later : List Records) → seen (filled_then fwft later) ≡ seen_filled fwft 8192 later
unfolding seen_from taken_next reads_word reads
seen_filled_lem false later = rw ((reset_leads false).0, (reset_leads false).1) (seen_more false later 8192 0 _ (reset_told false) (omega arith))
seen_filled_lem true later = rw ((reset_leads true).0, (reset_leads true).1) (seen_more true later 8192 0 _ (reset_told true) (omega arith))
