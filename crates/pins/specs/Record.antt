-- Trace sample: the pins in a record, and the mark of paper 02, order 2.
use Rattle.std.specs.Prelude.{ℕ, ◌/◌, ◌%◌, ◌^◌, Bool, false, cond, eqb, ltb}
use Rattle.pins.specs.declared.record.Pins.{Pins}
use Rattle.pins.specs.declared.record.Skew.{Skew}

abbrev pub bit : ℕ → ℕ → Bool
bit k x = eqb (x / 2 ^ k % 2) 1

-- the low 18 bits, as many as D and Q have
abbrev pub word : ℕ → ℕ
word x = x % 2 ^ 18

abbrev pub is_word : ℕ → Bool
is_word x = ltb x (2 ^ 18)

-- the mark that D was still moving
abbrev pub unsettled_in : ℕ → Bool
unsettled_in x = bit 18 x

abbrev pub pins_of : ℕ → Pins
pins_of x = record {
  mrs = bit 31 x;
  prs = bit 30 x;
  wclk = bit 29 x;
  rclk = bit 28 x;
  wen = bit 27 x;
  ren = bit 26 x;
  ld = bit 25 x;
  sen = bit 24 x;
  rt = bit 23 x;
  fwft = bit 22 x;
  oe = bit 21 x;
  skew = record { write = bit 20 x; read = bit 19 x };
  unsettled = unsettled_in x;
  d = word x;
}

-- the same pins with marks and D of their own
abbrev pub with_own : Skew → Bool → ℕ → Pins → Pins
with_own skew unsettled d p = record {
  mrs = p.mrs;
  prs = p.prs;
  wclk = p.wclk;
  rclk = p.rclk;
  wen = p.wen;
  ren = p.ren;
  ld = p.ld;
  sen = p.sen;
  rt = p.rt;
  fwft = p.fwft;
  oe = p.oe;
  skew = skew;
  unsettled = unsettled;
  d = d;
}

-- the same sample, had D been at rest
abbrev pub settled : Pins → Pins
settled p = with_own p.skew false p.d p

-- a level put at bit k
abbrev pub at : ℕ → Bool → ℕ
at k level = cond level (2 ^ k) 0
