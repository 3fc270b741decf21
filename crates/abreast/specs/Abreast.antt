-- Two parts of one kind side by side, each with an onlooker of its own: what their user keeps to, and what it is that they are not apart.
use Rattle.std.specs.Prelude.{ℕ, true, ◌≡◌, length}
use Rattle.counts.specs.declared.part.Part.{Part}
use Rattle.pins.specs.Record.{pins_of}
use Rattle.joint.specs.Refuse.{same_pins}
use Rattle.halves.specs.Two.{Two}
use Rattle.history.specs.Asked.{ShowsRoom, ShowsWord}
use Rattle.history.specs.Onlooker.{Notes, asks_read, asks_write}
use Rattle.history.specs.Trace.{Moment, takes}

abbrev pub Records : Type 0
Records = Two ℕ

module _ (part : Part) (left right : Moment) (s : Records) where
  -- each part takes its record, and they have the same pins
  abbrev pub TakenSame : Type 0
  TakenSame = (takes part left s.left ≡ true) × (takes part right s.right ≡ true) × (same_pins s.left s.right ≡ true)

  -- a write is asked only while both show room; levels and pins being the same, what one is asked both are
  abbrev pub RoomHeeded : Type 0
  RoomHeeded = asks_write left.notes (pins_of s.left) ≡ true → ShowsRoom part left × ShowsRoom part right

  -- and a read only while both show a word ready
  abbrev pub WordHeeded : Type 0
  WordHeeded = asks_read left.notes (pins_of s.left) ≡ true → ShowsWord part left × ShowsWord part right

-- what two onlookers have of two parts that are not apart: as many words accepted since the last reset, as many taken, and with
-- that the clocks' levels and the mode
pub record Abreast (left : Notes) (leftTaken : ℕ) (right : Notes) (rightTaken : ℕ) : Type 0 where
  pub accepted : length left.accepted ≡ length right.accepted
  pub taken : leftTaken ≡ rightTaken
  pub wclk : left.wclk ≡ right.wclk
  pub rclk : left.rclk ≡ right.rclk
  pub fwft : left.fwft ≡ right.fwft
