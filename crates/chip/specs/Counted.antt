-- The two sides: every count that a state holds is below the width, and stays so.
use Rattle.std.specs.Prelude.{ℕ, ◌<◌, Bool, true, false, cond, Option, Some, None}
use Rattle.std.proofs.Common.{arith}
use Rattle.counts.specs.declared.part.Part.{Part}
use Rattle.counts.specs.declared.round.ReadCount.{ReadCount}
use Rattle.counts.specs.declared.round.WriteCount.{WriteCount}
use Rattle.counts.specs.Either.{either}
use Rattle.counts.specs.Part.{depth_of}
use Rattle.counts.specs.Round.{more, width}
use Rattle.offsets.specs.declared.reading.Reading.{Reading}
use Rattle.offsets.specs.declared.registers.Offsets.{Offsets}
use Rattle.pins.specs.declared.record.Pins.{Pins}
use Rattle.sides.specs.declared.read.Mode.{Mode}
use Rattle.sides.specs.Clocks.{read_rises, write_rises}
use Rattle.sides.specs.Read.{delivers, read_after, read_count_after, retransmits, second_after_read}
use Rattle.sides.specs.Write.{accepts, second_after_write, write_after, write_count_after}
use Rattle.views.specs.Stages.{rise_after, count_taken}
use Rattle.chip.specs.declared.enables.Enables.{Enables}
use Rattle.chip.specs.declared.state.State.{State}
use Rattle.chip.specs.Advance.{advanced, running, state_after}
use Rattle.chip.specs.Reset.{cleared, master_reset, partial_reset, powered_up}

abbrev pub ReadBelow : ReadCount → Type 0
ReadBelow count = count.0 < width

abbrev pub WriteBelow : WriteCount → Type 0
WriteBelow count = count.0 < width

-- a count that is remembered
abbrev pub ReadRemembered : Option ReadCount → Type 0
ReadRemembered None = Unit {0}
ReadRemembered (Some count) = ReadBelow count

abbrev pub WriteRemembered : Option WriteCount → Type 0
WriteRemembered None = Unit {0}
WriteRemembered (Some count) = WriteBelow count

pub record Counted (s : State) : Type 0 where
  pub write : WriteBelow s.write.count
  pub write_first : ReadBelow s.write.first
  pub write_second : ReadBelow s.write.second
  pub write_latest : ReadRemembered s.write.latest
  pub read : ReadBelow s.read.count
  pub read_first : WriteBelow s.read.first
  pub read_second : WriteBelow s.read.second
  pub read_latest : WriteRemembered s.read.latest

next_below : (moves : Bool) (count : ℕ) → count < width → cond moves (more width count) count < width
next_below true count below = omega arith
next_below false count below = below

read_taken : (met : Bool) (latest : Option ReadCount) (count : ReadCount) → ReadRemembered latest → ReadBelow count → ReadBelow (count_taken met latest count)
read_taken met None count held below = below
read_taken met (Some earlier) count held below = either ReadBelow met count earlier below held

write_taken : (met : Bool) (latest : Option WriteCount) (count : WriteCount) → WriteRemembered latest → WriteBelow count → WriteBelow (count_taken met latest count)
write_taken met None count held below = below
write_taken met (Some earlier) count held below = either WriteBelow met count earlier below held

read_remembered : (own other : Bool) (count : ReadCount) (latest : Option ReadCount) → ReadBelow count → ReadRemembered latest
    → ReadRemembered (rise_after own other count latest)
read_remembered own true count latest below held = below
read_remembered true false count latest below held = tt
read_remembered false false count latest below held = held

write_remembered : (own other : Bool) (count : WriteCount) (latest : Option WriteCount) → WriteBelow count → WriteRemembered latest
    → WriteRemembered (rise_after own other count latest)
write_remembered own true count latest below held = below
write_remembered true false count latest below held = tt
write_remembered false false count latest below held = held

running_counted : (part : Part) (p : Pins) (fetched : ℕ) (s : State) → Counted s → Counted (running part p fetched s)
unfolding running write_after write_count_after second_after_write read_after read_count_after second_after_read
running_counted part p fetched s c = record {
  write = next_below (accepts (depth_of part) p s.write) s.write.count.0 c.write;
  write_first = either ReadBelow (write_rises p s.write) _ _ (read_taken p.skew.write s.write.latest s.read.count c.write_latest c.read) c.write_first;
  write_second = either ReadBelow (write_rises p s.write) _ _ c.write_first c.write_second;
  write_latest = read_remembered (write_rises p s.write) (read_rises p s.read) s.read.count s.write.latest c.read c.write_latest;
  read = either ReadBelow (retransmits p s.read) _ _ (omega arith) (next_below (delivers p s.read) s.read.count.0 c.read);
  read_first = either WriteBelow (read_rises p s.read) _ _ (write_taken p.skew.read s.read.latest s.write.count c.read_latest c.write) c.read_first;
  read_second = either WriteBelow (read_rises p s.read) _ _ c.read_first c.read_second;
  read_latest = write_remembered (read_rises p s.read) (write_rises p s.write) s.write.count s.read.latest c.write c.read_latest;
}

cleared_counted : (started wclk rclk : Bool) (mode : Mode) (offsets : Offsets) (reading : Reading) (enables : Enables)
    → Counted (cleared started wclk rclk mode offsets reading enables)
unfolding cleared
cleared_counted started wclk rclk mode offsets reading enables = omega arith

pub power_up_counted : Counted powered_up
unfolding powered_up
power_up_counted = cleared_counted _ _ _ _ _ _ _

pub counts_stay : (part : Part) (p : Pins) (fetched : ℕ) (s : State) → Counted s → Counted (advanced part p fetched s).state
unfolding advanced state_after master_reset partial_reset
counts_stay part p fetched s c =
    either Counted p.mrs _ (master_reset p s)
    (either Counted p.prs (running part p fetched s) (partial_reset p s) (running_counted part p fetched s c) (cleared_counted _ _ _ _ _ _ _))
    (cleared_counted _ _ _ _ _ _ _)
