-- Order 4: the chain record, a part's record of four bytes and three bytes more.
use Rattle.std.specs.Prelude.{ℕ, ◌*◌, ◌-◌, ◌/◌, ◌%◌, ◌^◌, Bool, ◌&&◌, eqb, ltb}
use Rattle.pins.specs.declared.record.Skew.{Skew}
use Rattle.pins.specs.Record.{bit, pins_of}
use Rattle.links.specs.declared.record.Links.{Links}

-- bit 23 of the three bytes is the transfer clock
abbrev pub links_of : ℕ → ℕ → Links
links_of x more = record { pins = pins_of x; clock = bit 23 more; more = more }

-- not refused 4: three bytes, and bits 22 to 16 zero
abbrev pub plain : ℕ → Bool
plain more = eqb (more / 2 ^ 16 % 2 ^ 7) 0 && ltb more (2 ^ 24)

-- from bit 15 down the marks of the parts, one part after the other, write before read; the first part is part 0
abbrev pub marks_of : ℕ → ℕ → Skew
marks_of more i = record { write = bit (15 - 2 * i) more; read = bit (14 - 2 * i) more }
