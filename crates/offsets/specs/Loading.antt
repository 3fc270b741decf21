-- Offsets: parallel and serial loading.
use Rattle.std.specs.Prelude.{ℕ, ◌+◌, ◌^◌, Bool, true, false, not, cond, ◌&&◌, eqb}
use Rattle.counts.specs.declared.part.Part.{Part}
use Rattle.counts.specs.Part.{above_bits, low_bits, offset_bits, serial_bits}
use Rattle.pins.specs.declared.record.Pins.{Pins}
use Rattle.offsets.specs.declared.registers.Method.{Method}
use Rattle.offsets.specs.declared.registers.Method.TheVariants.{Parallel, Serial}
use Rattle.offsets.specs.declared.registers.Offsets.{Offsets}
use Rattle.offsets.specs.Registers.{is_n, other}

-- the low bits of D go to the next register
unfoldable pub load_parallel : Part → ℕ → Offsets → Offsets
load_parallel part d o = record {
  n = cond (is_n o.next) (low_bits (offset_bits part) d) o.n;
  m = cond (is_n o.next) o.m (low_bits (offset_bits part) d);
  method = o.method;
  next = other o.next;
  serial = o.serial;
  count = o.count;
}

-- the serial bits with one more: each comes in above those before it
abbrev pub pushed : Bool → Offsets → ℕ
pushed bit o = o.serial + cond bit (2 ^ o.count) 0

-- one serial bit, by whether it is the last, which fills both registers, n from the earlier half
unfoldable pub with_bit : Bool → Part → Bool → Offsets → Offsets
with_bit true part bit o = record {
  n = low_bits (offset_bits part) (pushed bit o);
  m = low_bits (offset_bits part) (above_bits (offset_bits part) (pushed bit o));
  method = o.method;
  next = o.next;
  serial = 0;
  count = 0;
}
with_bit false part bit o = record {
  n = o.n;
  m = o.m;
  method = o.method;
  next = o.next;
  serial = pushed bit o;
  count = o.count + 1;
}

unfoldable pub load_serial : Part → Bool → Offsets → Offsets
load_serial part bit o = with_bit (eqb (o.count + 1) (serial_bits part)) part bit o

-- WEN LOW asks for a parallel load, SEN LOW for a serial bit, which FWFT/SI gives
unfoldable pub loaded_by : Method → Part → Pins → Offsets → Offsets
loaded_by Parallel part p o = cond p.wen o (load_parallel part p.d o)
loaded_by Serial part p o = cond p.sen o (load_serial part p.fwft o)

-- the offsets after a sample outside reset, by whether WCLK rises in it
unfoldable pub offsets_after : Part → Pins → Bool → Offsets → Offsets
offsets_after part p rises o = cond (rises && not p.ld) (loaded_by o.method part p o) o
