-- The two sides, WCLK rise; and Retransmit as the write side sees it.
use Rattle.std.specs.Prelude.{ℕ, Bool, not, cond, ◌&&◌, ◌||◌, eqb, ltb}
use Rattle.counts.specs.declared.round.WriteCount.{WriteCount}
use Rattle.counts.specs.declared.round.ReadCount.{ReadCount}
use Rattle.counts.specs.Round.{ahead, last_of_width, next_write}
use Rattle.pins.specs.declared.record.Pins.{Pins}
use Rattle.sides.specs.declared.read.ReadSide.{ReadSide}
use Rattle.sides.specs.declared.write.WriteSide.{WriteSide}
use Rattle.sides.specs.Clocks.{read_rises, write_rises}
use Rattle.views.specs.declared.retransmit.Setup.{Setup}
use Rattle.views.specs.Flags.{full_at, paf_low}
use Rattle.sides.specs.Read.{retransmits}
use Rattle.views.specs.Retransmit.{just_begun, view_after}
use Rattle.views.specs.Stages.{rise_after, looks_past, count_taken}

unfoldable pub full : ℕ → WriteSide → Bool
full depth w = full_at depth (ahead w.count w.second)

-- the word on D is accepted: a rise that asks for it, and not full before the sample
unfoldable pub accepts : ℕ → Pins → WriteSide → Bool
accepts depth p w = write_rises p w && p.ld && not p.wen && not (full depth w)

-- words accepted since reset: none
abbrev pub accepted_none : WriteSide → Bool
accepted_none w = not w.wrapped && eqb w.count.0 0

-- words accepted since reset: more than a limit below the width
abbrev pub accepted_more : ℕ → WriteSide → Bool
accepted_more limit w = w.wrapped || ltb limit w.count.0

-- the read count taken at a rise is from after the last retransmit before this sample, unless the rise looked past
-- is the very one that retransmitted
abbrev pub from_after : Bool → Setup → Bool
from_after past setup = not (past && just_begun setup)

unfoldable pub takes_after : Pins → ReadSide → WriteSide → Bool
takes_after p r w = from_after (looks_past p.skew.write w.latest) r.setup

-- after a rise the second stage holds what the first held
unfoldable pub second_after_write : Pins → WriteSide → ReadCount
second_after_write p w = cond (write_rises p w) w.first w.second

unfoldable pub write_count_after : ℕ → Pins → WriteSide → WriteCount
write_count_after depth p w = next_write (accepts depth p w) w.count

-- the write side after a sample outside reset; `m` and the read side are those before it
unfoldable pub write_after : ℕ → ℕ → Pins → ReadSide → WriteSide → WriteSide
write_after depth m p r w = record {
  level = p.wclk;
  count = write_count_after depth p w;
  wrapped = w.wrapped || accepts depth p w && last_of_width w.count;
  first = cond (write_rises p w) (count_taken p.skew.write w.latest r.count) w.first;
  second = second_after_write p w;
  latest = rise_after (write_rises p w) (read_rises p r) r.count w.latest;
  view = view_after (retransmits p r) (write_rises p w) (takes_after p r w) w.view;
  paf = cond (write_rises p w) (not (paf_low depth m (ahead (write_count_after depth p w) (second_after_write p w)))) w.paf;
}
