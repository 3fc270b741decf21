-- Offsets: what a rise of WCLK with LD LOW loads, by WEN and D or by SEN and FWFT/SI; nothing else loads.
use Rattle.std.specs.Prelude.{ℕ, ◌+◌, ◌/◌, ◌%◌, ◌^◌, Bool, true, false, not, cond, ◌&&◌, ◌≢◌, ◌↔◌, ◌≡◌, refl}
use Rattle.std.proofs.Common.{ap, ◌∙◌, eq-eqb, ne_eqb, arith}
use Rattle.std.proofs.Math.Pow.{field, mod-mod-pow}
use Rattle.std.proofs.lemmas.Nat.{mod-pow-add}
use Rattle.std.proofs.Math.Nat.{mod-mod}
use Rattle.counts.specs.declared.part.Part.{Part}
use Rattle.counts.specs.Part.{offset_bits, serial_bits}
use Rattle.pins.specs.declared.record.Pins.{Pins}
use Rattle.pins.specs.Laws.{level_back}
use Rattle.pins.specs.Record.{bit}
use Rattle.offsets.specs.declared.registers.Method.{Method}
use Rattle.offsets.specs.declared.registers.Method.TheVariants.{Parallel, Serial}
use Rattle.offsets.specs.declared.registers.Next.TheVariants.{N, M}
use Rattle.offsets.specs.declared.registers.Offsets.{Offsets}
use Rattle.offsets.specs.Loading.{load_parallel, load_serial, loaded_by, offsets_after, with_bit}

-- what loads: a rise with LD LOW and the enable of the method LOW
abbrev pub Asked : Type 0 → Bool → Bool → Type 0
Asked rise ld enable = rise × (ld ≡ false) × (enable ≡ false)

-- the offsets after a sample, by whether WCLK rises in it
pub record Loading (part : Part) (p : Pins) (rise : Type 0) (o after : Offsets) : Type 0 where
  -- n, then m, then n again
  pub parallel_n : o.method ≡ Parallel → Asked rise p.ld p.wen → o.next ≡ N
      → after ≡ record { n = p.d % 2 ^ offset_bits part; m = o.m; method = Parallel; next = M; serial = o.serial; count = o.count }
  pub parallel_m : o.method ≡ Parallel → Asked rise p.ld p.wen → o.next ≡ M
      → after ≡ record { n = o.n; m = p.d % 2 ^ offset_bits part; method = Parallel; next = N; serial = o.serial; count = o.count }
  pub parallel_else : o.method ≡ Parallel → ¬ Asked rise p.ld p.wen → after ≡ o
  -- the bits of x come in one by one, the least significant first: with the earlier ones held, FWFT/SI gives the next
  pub serial_bit : (x : ℕ) → o.method ≡ Serial → Asked rise p.ld p.sen → o.serial ≡ x % 2 ^ o.count → p.fwft ≡ bit o.count x
      → o.count + 1 ≢ serial_bits part
      → after ≡ record { n = o.n; m = o.m; method = Serial; next = o.next; serial = x % 2 ^ (1 + o.count); count = o.count + 1 }
  -- both registers take their values together, with the last
  pub serial_last : (x : ℕ) → o.method ≡ Serial → Asked rise p.ld p.sen → o.serial ≡ x % 2 ^ o.count → p.fwft ≡ bit o.count x
      → o.count + 1 ≡ serial_bits part
      → after ≡ record { n = x % 2 ^ offset_bits part; m = x / 2 ^ offset_bits part % 2 ^ offset_bits part; method = Serial; next = o.next; serial = 0; count = 0 }
  pub serial_else : o.method ≡ Serial → ¬ Asked rise p.ld p.sen → after ≡ o

else_by : {rise : Type 0} (rises ld enable : Bool) (loaded o : Offsets) → (rises ≡ true) ↔ rise → ¬ Asked rise ld enable
    → cond (rises && not ld) (cond enable o loaded) o ≡ o
else_by false ld enable loaded o told none = refl
else_by true true enable loaded o told none = refl
else_by true false true loaded o told none = refl
else_by true false false loaded o told none = absurd (none (told.0 refl, refl, refl))

least_first : (x : ℕ) (o : Offsets) → o.serial ≡ x % 2 ^ o.count
    → o.serial + cond (bit o.count x) (2 ^ o.count) 0 ≡ x % 2 ^ (1 + o.count)
least_first x o e = rw (mod-pow-add x 1 o.count) (omega (arith, level_back o.count x))

by_method : (part : Part) (p : Pins) (rises : Bool) (o : Offsets) (method : Method) → o.method ≡ method
    → offsets_after part p rises o ≡ cond (rises && not p.ld) (loaded_by method part p o) o
unfolding offsets_after
by_method part p rises o method e = ap (λ (by : Method). cond (rises && not p.ld) (loaded_by by part p o) o) e

pub loading : (part : Part) (p : Pins) (rises : Bool) {rise : Type 0} (o : Offsets) → (rises ≡ true) ↔ rise
    → Loading part p rise o (offsets_after part p rises o)
unfolding offsets_after loaded_by load_parallel load_serial with_bit
loading part p rises o told = record {
  parallel_n = λ method asked next. simp (told.1 asked.0, asked.1, method, asked.2, next);
  parallel_m = λ method asked next. simp (told.1 asked.0, asked.1, method, asked.2, next);
  parallel_else = λ method none. by_method part p rises o Parallel method ∙ else_by rises p.ld p.wen _ o told none;
  serial_bit = λ x method asked held given more.
      simp (told.1 asked.0, asked.1, method, asked.2, given, ne_eqb (o.count + 1) (serial_bits part) more, least_first x o held);
  serial_last = λ x method asked held given last.
      let all : 1 + o.count ≡ offset_bits part + offset_bits part = omega arith in
      simp (
        told.1 asked.0,
        asked.1,
        method,
        asked.2,
        given,
        eq-eqb (o.count + 1) (serial_bits part) last,
        least_first x o held,
        all,
        mod-mod-pow,
        field,
        mod-mod,
      );
  serial_else = λ method none. by_method part p rises o Serial method ∙ else_by rises p.ld p.sen _ o told none;
}
