-- Offsets, reading: a rise of RCLK with LD and REN LOW shows the next one, one with LD HIGH ends the showing, and all else leaves it, whatever the
-- other pins are.
use Rattle.std.specs.Prelude.{ℕ, ◌<◌, Bool, true, false, cond, ◌↔◌, ◌≡◌, refl, Some, None}
use Rattle.std.proofs.Common.{lt-ltb, ltb-true}
use Rattle.counts.specs.declared.part.Part.TheVariants.{Idt72V255LA, Idt72V265LA}
use Rattle.pins.specs.declared.record.Pins.{Pins}
use Rattle.offsets.specs.declared.reading.Reading.{Reading}
use Rattle.offsets.specs.declared.registers.Next.TheVariants.{N, M}
use Rattle.offsets.specs.declared.registers.Offsets.{Offsets}
use Rattle.offsets.specs.Reading.{read_next, reading_after, shown, shown_fits}

-- what is read after a sample, by whether RCLK rises in it; `o` are the offsets before it
pub record Showing (p : Pins) (rise : Type 0) (o : Offsets) (reading after : Reading) : Type 0 where
  pub n : rise → p.ld ≡ false → p.ren ≡ false → reading.next ≡ N → after ≡ record { next = M; shows = Some o.n }
  pub m : rise → p.ld ≡ false → p.ren ≡ false → reading.next ≡ M → after ≡ record { next = N; shows = Some o.m }
  pub ends : rise → p.ld ≡ true → after ≡ record { next = reading.next; shows = None }
  pub stays : rise → p.ld ≡ false → p.ren ≡ true → after ≡ reading
  pub still : ¬ rise → after ≡ reading

still_by : {rise : Type 0} (rises : Bool) (moved reading : Reading) → (rises ≡ true) ↔ rise → ¬ rise → cond rises moved reading ≡ reading
still_by true moved reading told none = absurd (none (told.0 refl))
still_by false moved reading told none = refl

pub showing : (p : Pins) (rises : Bool) {rise : Type 0} (o : Offsets) (reading : Reading) → (rises ≡ true) ↔ rise
    → Showing p rise o reading (reading_after p rises o reading)
unfolding reading_after read_next
showing p rises o reading told = record {
  n = λ rise ld ren next. simp (told.1 rise, ld, ren, next);
  m = λ rise ld ren next. simp (told.1 rise, ld, ren, next);
  ends = λ rise ld. simp (told.1 rise, ld);
  stays = λ rise ld ren. simp (told.1 rise, ld, ren);
  still = still_by rises _ reading told;
}

pub shown_at_q : (offset output : ℕ) → (shown (Some offset) output ≡ offset) × (shown None output ≡ output)
shown_at_q offset output = (refl, refl)

-- What is turned away, 3, on the offset shown
pub shown_within : (offset : ℕ)
    → ((shown_fits Idt72V255LA (Some offset) ≡ true) ↔ (offset < 8192)) × ((shown_fits Idt72V265LA (Some offset) ≡ true) ↔ (offset < 16384))
shown_within offset = ((ltb-true offset 8192, lt-ltb offset 8192), (ltb-true offset 16384, lt-ltb offset 16384))
