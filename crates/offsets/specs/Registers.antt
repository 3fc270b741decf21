-- Offsets: the registers and their widths. Resets: what a Master Reset makes them.
use Rattle.std.specs.Prelude.{ℕ, ◌^◌, Bool, true, false, cond, ◌&&◌, ltb}
use Rattle.counts.specs.declared.part.Part.{Part}
use Rattle.counts.specs.Part.{offset_bits, serial_bits, within}
use Rattle.offsets.specs.declared.registers.Method.{Method}
use Rattle.offsets.specs.declared.registers.Method.TheVariants.{Parallel, Serial}
use Rattle.offsets.specs.declared.registers.Next.{Next}
use Rattle.offsets.specs.declared.registers.Next.TheVariants.{N, M}
use Rattle.offsets.specs.declared.registers.Offsets.{Offsets}

-- the register that a place in a sequence stands for
abbrev pub offset_at : Next → Offsets → ℕ
offset_at N o = o.n
offset_at M o = o.m

abbrev pub is_n : Next → Bool
is_n N = true
is_n M = false

-- the two take turns
abbrev pub other : Next → Next
other N = M
other M = N

-- LD at a Master Reset gives both offsets and selects the loading method
abbrev pub default_offset : Bool → ℕ
default_offset ld = cond ld 1023 127

abbrev pub method_of : Bool → Method
method_of ld = cond ld Serial Parallel

unfoldable pub defaults : Bool → Offsets
defaults ld = record {
  n = default_offset ld;
  m = default_offset ld;
  method = method_of ld;
  next = N;
  serial = 0;
  count = 0;
}

-- What is turned away, 3, on the serial bits
abbrev pub serial_fits : ℕ → ℕ → ℕ → Bool
serial_fits limit serial count = ltb count limit && ltb serial (2 ^ count)

-- What is turned away, 3, on all that is kept for the offsets but the one shown
unfoldable pub fit : Part → Offsets → Bool
fit part o = within (offset_bits part) o.n && within (offset_bits part) o.m && serial_fits (serial_bits part) o.serial o.count
