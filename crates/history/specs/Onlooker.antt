-- What an onlooker tells of a sample that was taken, by its pins, the flags before and after it, and the output register
-- after it. Nothing here can know a count or a stage.
use Rattle.std.specs.Prelude.{ℕ, ◌-◌, Bool, true, false, not, cond, ◌&&◌, ◌||◌, List, [], ◌∷◌, ◌++◌, get_or, length}
use Rattle.pins.specs.declared.record.Pins.{Pins}
use Rattle.pins.specs.Record.{word}

-- the level of FF/IR, the level of EF/OR, and the bits of the output register
pub record Shown : Type 0 where
  pub ff : Bool
  pub ef : Bool
  pub register : ℕ

-- what the onlooker keeps: each clock's level in the last sample taken, FWFT at the last Master Reset, the words accepted since
-- the last reset, and those delivered since then or since a later retransmit
pub record Notes : Type 0 where
  pub wclk : Bool
  pub rclk : Bool
  pub fwft : Bool
  pub accepted : List ℕ
  pub delivered : List ℕ

-- the last of some words
abbrev pub last_of : List ℕ → ℕ
last_of words = get_or words (length words - 1) 0

-- at power-up both clocks count as HIGH; a Master Reset comes before all else that is taken
abbrev pub blank : Notes
blank = record { wclk = true; rclk = true; fwft = false; accepted = []; delivered = [] }

abbrev pub outside : Pins → Bool
outside p = p.mrs && p.prs

-- in a reset no clock rises
abbrev pub wclk_rises : Notes → Pins → Bool
wclk_rises b p = outside p && (not b.wclk && p.wclk)

abbrev pub rclk_rises : Notes → Pins → Bool
rclk_rises b p = outside p && (not b.rclk && p.rclk)

-- a write is asked, and a read, whether or not it then happens
abbrev pub asks_write : Notes → Pins → Bool
asks_write b p = wclk_rises b p && p.ld && not p.wen

abbrev pub asks_read : Notes → Pins → Bool
asks_read b p = rclk_rises b p && p.ld && not p.ren && p.rt

-- no room: FF LOW, or IR HIGH
abbrev pub tells_full : Bool → Bool → Bool
tells_full fwft ff = cond fwft ff (not ff)

abbrev pub full : Bool → Shown → Bool
full fwft shown = tells_full fwft shown.ff

-- a word is ready: EF HIGH, or OR LOW
abbrev pub tells_ready : Bool → Bool → Bool
tells_ready fwft ef = cond fwft (not ef) ef

abbrev pub ready : Bool → Shown → Bool
ready fwft shown = tells_ready fwft shown.ef

-- the word on D is accepted
unfoldable pub accepts : Notes → Pins → Shown → Bool
accepts b p before = asks_write b p && not (full b.fwft before)

unfoldable pub retransmits : Notes → Pins → Bool
retransmits b p = rclk_rises b p && not p.rt

-- a read, which takes the word that is ready
unfoldable pub reads : Notes → Pins → Shown → Bool
reads b p before = asks_read b p && ready b.fwft before

-- a word comes into the output register: in Standard by the read; in FWFT at a rise with RT HIGH that leaves one ready, where
-- none was ready before or the read took it
unfoldable pub delivers : Notes → Pins → Shown → Shown → Bool
delivers b p before after =
    cond b.fwft (rclk_rises b p && p.rt && ready true after && (not (ready true before) || reads b p before)) (reads b p before)

-- the notes after a reset, by the mode that it leaves
abbrev pub started_over : Bool → Pins → Notes
started_over fwft p = record { wclk = p.wclk; rclk = p.rclk; fwft = fwft; accepted = []; delivered = [] }

-- the notes after a sample outside reset: D's 18 bits where a word is accepted, the output register's where one is delivered
unfoldable pub went_on : Notes → Pins → Shown → Shown → Notes
went_on b p before after = record {
  wclk = p.wclk;
  rclk = p.rclk;
  fwft = b.fwft;
  accepted = cond (accepts b p before) (b.accepted ++ (word p.d ∷ [])) b.accepted;
  delivered = cond (retransmits b p) [] (cond (delivers b p before after) (b.delivered ++ (after.register ∷ [])) b.delivered);
}

-- MRS LOW selects the mode, PRS LOW keeps it
unfoldable pub noted : Notes → Pins → Shown → Shown → Notes
noted b p before after = cond p.mrs (cond p.prs (went_on b p before after) (started_over b.fwft p)) (started_over p.fwft p)
