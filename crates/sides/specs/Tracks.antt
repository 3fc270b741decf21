-- What the two sides hold of the true counts, each known to them only round its width.
use Rattle.std.specs.Prelude.{ℕ, ◌+◌, ◌%◌, ◌≤◌, ◌<◌, Bool, true, false, not, cond, ◌&&◌, ◌≡◌, Option, Some, None, is_some}
use Rattle.counts.specs.declared.round.WriteCount.{WriteCount}
use Rattle.counts.specs.declared.round.ReadCount.{ReadCount}
use Rattle.counts.specs.Round.{width}
use Rattle.pins.specs.declared.record.Pins.{Pins}
use Rattle.sides.specs.declared.read.Mode.{Mode}
use Rattle.sides.specs.declared.read.Mode.TheVariants.{Standard, Fwft}
use Rattle.sides.specs.declared.read.ReadSide.{ReadSide}
use Rattle.sides.specs.declared.write.WriteSide.{WriteSide}
use Rattle.sides.specs.Clocks.{read_rises, write_rises}
use Rattle.sides.specs.Read.{delivers, retransmits}
use Rattle.sides.specs.SinceReset.{Tallies}
use Rattle.sides.specs.Write.{accepts}
use Rattle.views.specs.Retransmit.{is_seen, just_begun}
use Rattle.views.specs.TrueCounts.{Ordered, Setting, TrueCounts, across, after_read, after_write}

abbrev pub RemembersRead : Option ReadCount → ℕ → Type 0
RemembersRead None before = Unit {0}
RemembersRead (Some count) before = count.0 ≡ before % width

abbrev pub RemembersWrite : Option WriteCount → ℕ → Type 0
RemembersWrite None before = Unit {0}
RemembersWrite (Some count) before = count.0 ≡ before % width

-- in FWFT with no word untaken, all that was accepted four rises ago is delivered
abbrev pub Owes : Mode → ℕ → ℕ → Type 0
Owes Standard four_ago read = Unit {0}
Owes (Fwft true) four_ago read = Unit {0}
Owes (Fwft false) four_ago read = four_ago ≤ read

-- counts, stages and remembered rises are the true ones round the width, and the true ones lie in order
pub record Tracks (depth : ℕ) (w : WriteSide) (r : ReadSide) (t : TrueCounts) : Type 0 where
  pub written : Tallies t.written w
  pub read : r.count.0 ≡ t.read % width
  pub write_first : w.first.0 ≡ t.write_first % width
  pub write_second : w.second.0 ≡ t.write_second % width
  pub read_first : r.first.0 ≡ t.read_first % width
  pub read_second : r.second.0 ≡ t.read_second % width
  pub latest_read : RemembersRead w.latest t.read_before
  pub latest_write : RemembersWrite r.latest t.written_before
  pub ordered : Ordered depth w.view (just_begun r.setup) (is_some r.latest) (is_some w.latest) t
  pub setting : Setting r.setup t.one_ago t.two_ago t.three_ago
  pub owes : Owes r.mode t.four_ago t.read

-- what is asked of a sample outside reset: no write before the last retransmit is seen; a retransmit only of fewer words than memory
-- holds, and with WEN HIGH
pub record Allowed (depth : ℕ) (p : Pins) (w : WriteSide) (r : ReadSide) (t : TrueCounts) : Type 0 where
  pub seen : write_rises p w && p.ld && not p.wen && not (is_seen w.view) ≡ false
  pub few : retransmits p r ≡ true → t.written < depth
  pub alone : retransmits p r ≡ true → p.wen ≡ true

-- the read count after a sample
abbrev pub next_true : Bool → Bool → ℕ → ℕ
next_true retransmits delivers read = cond retransmits 0 (cond delivers (read + 1) read)

unfoldable pub true_after : ℕ → Pins → WriteSide → ReadSide → TrueCounts → TrueCounts
true_after depth p w r t =
    after_read (read_rises p r) (retransmits p r) (next_true (retransmits p r) (delivers p r) t.read)
    (across p.skew.read (is_some r.latest) t.written t.written_before) t.written
    (after_write (write_rises p w) (accepts depth p w) (across p.skew.write (is_some w.latest) t.read t.read_before) t)
