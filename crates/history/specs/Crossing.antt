-- The two sides and Retransmit, told by the onlooker, who sees the skew marks too: what each side has of the other's words. His numbers go
-- round no width.
use Rattle.std.specs.Prelude.{ℕ, ◌-◌, Bool, false, not, cond, ◌&&◌, ◌||◌, List, [], ◌∷◌, eqb, length}
use Rattle.counts.specs.declared.part.Part.{Part}
use Rattle.pins.specs.declared.record.Pins.{Pins}
use Rattle.pins.specs.Record.{pins_of}
use Rattle.history.specs.Onlooker.{Notes, outside, rclk_rises, wclk_rises}
use Rattle.history.specs.Trace.{Moment, next, takes}

pub record Crossing : Type 0 where
  -- words delivered, as the write side's stages hold them, and words accepted, as the read side's do
  pub write_first : ℕ
  pub write_second : ℕ
  pub read_first : ℕ
  pub read_second : ℕ
  -- words delivered before the latest rise of RCLK, and words accepted before the latest of WCLK
  pub delivered_before : ℕ
  pub accepted_before : ℕ
  -- RCLK has risen since WCLK's last rise, and the converse
  pub rclk_since : Bool
  pub wclk_since : Bool
  -- rises of RCLK that a retransmit's setup still lasts
  pub wait : ℕ

-- after a reset
abbrev pub uncrossed : Crossing
uncrossed = record {
  write_first = 0;
  write_second = 0;
  read_first = 0;
  read_second = 0;
  delivered_before = 0;
  accepted_before = 0;
  rclk_since = false;
  wclk_since = false;
  wait = 0;
}

-- words accepted since reset, and delivered since reset or retransmit
abbrev pub accepted : Moment → ℕ
accepted m = length m.notes.accepted

abbrev pub delivered : Moment → ℕ
delivered m = length m.notes.delivered

-- the read side sees a word: no setup runs, and its second stage and the words delivered differ
abbrev pub sees_word : Moment → Crossing → Bool
sees_word m c = eqb c.wait 0 && not (eqb c.read_second (delivered m))

-- into a first stage: the number before this sample; with the skew missed, the one from before the other clock's latest rise since
abbrev pub crosses : Bool → Bool → ℕ → ℕ → ℕ
crosses met since before now = cond (since && not met) before now

-- a sample outside reset, with the notes before it
unfoldable pub crossed_on : Notes → Pins → Crossing → Crossing
crossed_on b p c = record {
  write_first = cond (wclk_rises b p) (crosses p.skew.write c.rclk_since c.delivered_before (length b.delivered)) c.write_first;
  write_second = cond (wclk_rises b p) c.write_first c.write_second;
  read_first = cond (rclk_rises b p) (crosses p.skew.read c.wclk_since c.accepted_before (length b.accepted)) c.read_first;
  read_second = cond (rclk_rises b p) c.read_first c.read_second;
  delivered_before = cond (rclk_rises b p) (length b.delivered) c.delivered_before;
  accepted_before = cond (wclk_rises b p) (length b.accepted) c.accepted_before;
  rclk_since = rclk_rises b p || not (wclk_rises b p) && c.rclk_since;
  wclk_since = wclk_rises b p || not (rclk_rises b p) && c.wclk_since;
  wait = cond (rclk_rises b p) (cond p.rt (c.wait - 1) 2) c.wait;
}

unfoldable pub crossed : Notes → Pins → Crossing → Crossing
crossed b p c = cond (outside p) (crossed_on b p c) uncrossed

module _ (part : Part) where
  unfoldable pub crossed_next : Moment → ℕ → Crossing → Crossing
  crossed_next m x c = cond (takes part m x) (crossed m.notes (pins_of x) c) c

  unfoldable pub crossed_led : Moment → List ℕ → Crossing → Crossing
  crossed_led m [] c = c
  crossed_led m (x ∷ xs) c = crossed_led (next part m x) xs (crossed_next m x c)
