-- Resets; and Trace sample, on power-up.
use Rattle.std.specs.Prelude.{Bool, true, false, cond, ◌≡◌, None}
use Rattle.offsets.specs.Reading.{ended}
use Rattle.offsets.specs.Registers.{defaults}
use Rattle.offsets.specs.declared.reading.Reading.{Reading}
use Rattle.offsets.specs.declared.registers.Next.TheVariants.{N}
use Rattle.offsets.specs.declared.registers.Offsets.{Offsets}
use Rattle.pins.specs.declared.record.Pins.{Pins}
use Rattle.sides.specs.declared.read.Mode.{Mode}
use Rattle.sides.specs.declared.read.Mode.TheVariants.{Standard, Fwft}
use Rattle.views.specs.declared.retransmit.Setup.TheVariants.{Over}
use Rattle.views.specs.declared.retransmit.View.TheVariants.{Seen}
use Rattle.chip.specs.declared.enables.Enables.{Enables}
use Rattle.chip.specs.declared.state.State.{State}
use Rattle.chip.specs.Enables.{all_high, enables_after}

-- what both resets clear, with the levels of clocks, RT and enables remembered
unfoldable pub cleared : Bool → Bool → Bool → Mode → Offsets → Reading → Enables → State
cleared started wclk rclk mode offsets reading enables = record {
  started = started;
  write = record {
    level = wclk;
    count = record { 0 = 0 };
    wrapped = false;
    first = record { 0 = 0 };
    second = record { 0 = 0 };
    latest = None;
    view = Seen;
    paf = true;
  };
  read = record {
    level = rclk;
    count = record { 0 = 0 };
    first = record { 0 = 0 };
    second = record { 0 = 0 };
    latest = None;
    setup = Over;
    pae = false;
    mode = mode;
    output = 0;
  };
  offsets = offsets;
  reading = reading;
  enables = enables;
}

-- by FWFT at a Master Reset
abbrev pub selected_mode : Bool → Mode
selected_mode fwft = cond fwft (Fwft false) Standard

-- MRS: mode, offsets, method and sequences anew, by FWFT and LD
unfoldable pub master_reset : Pins → State → State
master_reset p s = cleared true p.wclk p.rclk (selected_mode p.fwft) (defaults p.ld) (ended N) (enables_after p s.enables)

-- the same mode, with no word untaken
abbrev pub kept_mode : Mode → Mode
kept_mode Standard = Standard
kept_mode (Fwft untaken) = Fwft false

-- PRS: only what is cleared changes, and an offset is no longer shown
unfoldable pub partial_reset : Pins → State → State
partial_reset p s =
    cleared s.started p.wclk p.rclk (kept_mode s.read.mode) s.offsets (ended s.reading.next) (enables_after p s.enables)

-- no Master Reset yet, WCLK HIGH, RCLK HIGH, and RT and the enables HIGH; a Master Reset decides the rest before any answer depends on it
unfoldable pub powered_up : State
powered_up = cleared false true true Standard (defaults false) (ended N) all_high

abbrev pub PoweredUp : State → Type 0
PoweredUp r = r ≡ powered_up
