-- What is turned away, 3, on the offsets: the test read as bounds, and kept by loading and reading.
use Rattle.std.specs.Prelude.{ℕ, ◌+◌, ◌^◌, ◌≤◌, ◌<◌, Bool, true, false, cond, not, ◌&&◌, ◌≢◌, ◌≡◌, refl, eqb}
use Rattle.std.proofs.Common.{ap, ◌∙◌, pow_pos, ltb-true, lt-ltb, mod-lt, add-one, arith}
use Rattle.std.proofs.Math.Pow.{pow-lt}
use Rattle.std.proofs.lemmas.Bool.{eqb-false}
use Rattle.std.proofs.Math.Nat.{two-pow-succ}
use Rattle.counts.specs.declared.part.Part.{Part}
use Rattle.counts.specs.declared.part.Part.TheVariants.{Idt72V255LA, Idt72V265LA}
use Rattle.counts.specs.Both.{both}
use Rattle.counts.specs.Either.{either}
use Rattle.counts.specs.Part.{above_bits, low_bits, offset_bits, serial_bits}
use Rattle.counts.specs.PartLaws.{offset_bits_lem}
use Rattle.pins.specs.declared.record.Pins.{Pins}
use Rattle.offsets.specs.declared.registers.Offsets.{Offsets}
use Rattle.offsets.specs.declared.reading.Reading.{Reading}
use Rattle.offsets.specs.declared.registers.Next.{Next}
use Rattle.offsets.specs.declared.registers.Next.TheVariants.{N, M}
use Rattle.offsets.specs.declared.registers.Method.{Method}
use Rattle.offsets.specs.declared.registers.Method.TheVariants.{Parallel, Serial}
use Rattle.offsets.specs.Loading.{load_parallel, load_serial, loaded_by, offsets_after, pushed, with_bit}
use Rattle.offsets.specs.Reading.{ended, read_next, reading_after, shown_fits}
use Rattle.offsets.specs.Registers.{defaults, fit, is_n}

pub record Fits (part : Part) (o : Offsets) : Type 0 where
  pub n : o.n < 2 ^ offset_bits part
  pub m : o.m < 2 ^ offset_bits part
  pub count : o.count < serial_bits part
  pub serial : o.serial < 2 ^ o.count

pub fits : (part : Part) (o : Offsets) → fit part o ≡ true → Fits part o
unfolding fit
fits part o e =
    let all = both _ _ e in
    let registers = both _ _ all.0 in
    let serial = both _ _ all.1 in
    record {
      n = ltb-true o.n (2 ^ offset_bits part) registers.0;
      m = ltb-true o.m (2 ^ offset_bits part) registers.1;
      count = ltb-true o.count (serial_bits part) serial.0;
      serial = ltb-true o.serial (2 ^ o.count) serial.1;
    }

pub fitting : (part : Part) (o : Offsets) → Fits part o → fit part o ≡ true
unfolding fit
fitting part o f =
    simp (
      lt-ltb o.n (2 ^ offset_bits part) f.n,
      lt-ltb o.m (2 ^ offset_bits part) f.m,
      lt-ltb o.count (serial_bits part) f.count,
      lt-ltb o.serial (2 ^ o.count) f.serial,
    )

pub few_bits : (part : Part) → serial_bits part ≤ 28
few_bits part = omega (arith, offset_bits_lem part)

pub serial_small : (part : Part) (o : Offsets) → fit part o ≡ true → (o.serial < 2 ^ o.count) × (2 ^ o.count < 2 ^ 28)
serial_small part o e =
    let f = fits part o e in
    (f.serial, pow-lt {i = o.count} {j = 28} (omega (arith, few_bits part)))

low_fits : (bits x : ℕ) → low_bits bits x < 2 ^ bits
low_fits bits x = mod-lt x (pow_pos bits)

doubled : (k : ℕ) → 2 ^ (k + 1) ≡ 2 ^ k + 2 ^ k
doubled k = ap (λ (i : ℕ). 2 ^ i) (add-one k) ∙ two-pow-succ k

pushed_fits : (bit : Bool) (o : Offsets) → o.serial < 2 ^ o.count → pushed bit o < 2 ^ (o.count + 1)
pushed_fits true o h = omega (arith, doubled o.count)
pushed_fits false o h = omega (arith, doubled o.count)

parallel_fits : (part : Part) (d : ℕ) (o : Offsets) → Fits part o → Fits part (load_parallel part d o)
unfolding load_parallel
parallel_fits part d o f = record {
  n = either (λ (x : ℕ). x < 2 ^ offset_bits part) (is_n o.next) _ _ (low_fits (offset_bits part) d) f.n;
  m = either (λ (x : ℕ). x < 2 ^ offset_bits part) (is_n o.next) _ _ f.m (low_fits (offset_bits part) d);
  count = f.count;
  serial = f.serial;
}

serial_fits_by : (part : Part) (bit : Bool) (o : Offsets) (last : Bool) → eqb (o.count + 1) (serial_bits part) ≡ last → Fits part o
    → Fits part (with_bit last part bit o)
unfolding with_bit
serial_fits_by part bit o true e f = record {
  n = low_fits (offset_bits part) (pushed bit o);
  m = low_fits (offset_bits part) (above_bits (offset_bits part) (pushed bit o));
  count = omega arith;
  serial = omega arith;
}
serial_fits_by part bit o false e f =
    let more : o.count + 1 ≢ serial_bits part = eqb-false (o.count + 1) (serial_bits part) e in
    record {
      n = f.n;
      m = f.m;
      count = omega arith;
      serial = pushed_fits bit o f.serial;
    }

loaded_fits : (part : Part) (p : Pins) (method : Method) (o : Offsets) → Fits part o → Fits part (loaded_by method part p o)
unfolding loaded_by load_serial
loaded_fits part p Parallel o f = either (Fits part) p.wen o (load_parallel part p.d o) f (parallel_fits part p.d o f)
loaded_fits part p Serial o f =
    either (Fits part) p.sen o (load_serial part p.fwft o) f
    (serial_fits_by part p.fwft o (eqb (o.count + 1) (serial_bits part)) refl f)

pub offsets_stay : (part : Part) (p : Pins) (rises : Bool) (o : Offsets) → fit part o ≡ true → fit part (offsets_after part p rises o) ≡ true
unfolding offsets_after
offsets_stay part p rises o e =
    let f = fits part o e in
    fitting part (offsets_after part p rises o)
    (either (Fits part) (rises && not p.ld) (loaded_by o.method part p o) o (loaded_fits part p o.method o f) f)

pub defaults_fit : (part : Part) (ld : Bool) → fit part (defaults ld) ≡ true
unfolding fit defaults
defaults_fit Idt72V255LA true = refl
defaults_fit Idt72V255LA false = refl
defaults_fit Idt72V265LA true = refl
defaults_fit Idt72V265LA false = refl

next_shown_fits : (part : Part) (next : Next) (o : Offsets) → Fits part o → shown_fits part (read_next next o).shows ≡ true
unfolding read_next
next_shown_fits part N o f = lt-ltb o.n (2 ^ offset_bits part) f.n
next_shown_fits part M o f = lt-ltb o.m (2 ^ offset_bits part) f.m

shown_stays_by : (part : Part) (o : Offsets) (reading : Reading) (rises ld ren : Bool) → Fits part o → shown_fits part reading.shows ≡ true
    → shown_fits part (cond rises (cond ld (ended reading.next) (cond ren reading (read_next reading.next o))) reading).shows ≡ true
shown_stays_by part o reading true true ren f e = refl
shown_stays_by part o reading true false true f e = e
shown_stays_by part o reading true false false f e = next_shown_fits part reading.next o f
shown_stays_by part o reading false ld ren f e = e

pub shown_stays : (part : Part) (p : Pins) (rises : Bool) (o : Offsets) (reading : Reading) → fit part o ≡ true
    → shown_fits part reading.shows ≡ true → shown_fits part (reading_after p rises o reading).shows ≡ true
unfolding reading_after
shown_stays part p rises o reading e = shown_stays_by part o reading rises p.ld p.ren (fits part o e)
