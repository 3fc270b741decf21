-- No part is deeper than this.
use Prim.Native.Nat.{◌≤◌}
use native.Mathlib.Omega.{arith}
use Rattle.counts.specs.declared.part.Part.{Part}
use Rattle.counts.specs.declared.part.Part.TheVariants.{Idt72V255LA, Idt72V265LA}
use Rattle.counts.specs.Part.{depth_of}

pub depth_most : (part : Part) → depth_of part ≤ 16384
depth_most Idt72V255LA = omega arith
depth_most Idt72V265LA = omega arith
