-- The two sides, on the stages: at any rise of the own clock, whatever LD, RT, the enables and the mode are, and by the own skew mark only.
use Rattle.std.specs.Prelude.{ℕ}
use Rattle.counts.specs.declared.round.ReadCount.{ReadCount}
use Rattle.counts.specs.declared.round.WriteCount.{WriteCount}
use Rattle.pins.specs.declared.record.Pins.{Pins}
use Rattle.sides.specs.declared.read.ReadSide.{ReadSide}
use Rattle.sides.specs.declared.write.WriteSide.{WriteSide}
use Rattle.sides.specs.Clocks.{read_rises, write_rises}
use Rattle.sides.specs.Read.{read_after, second_after_read}
use Rattle.sides.specs.Write.{second_after_write, write_after}
use Rattle.views.specs.StageLaws.{Crossed, Sight, crossed}

abbrev pub write_sight : WriteSide → Sight ReadCount
write_sight w = record { first = w.first; second = w.second; latest = w.latest }

abbrev pub read_sight : ReadSide → Sight WriteCount
read_sight r = record { first = r.first; second = r.second; latest = r.latest }

pub write_stages_lem : (depth m : ℕ) (p : Pins) (r : ReadSide) (w : WriteSide)
    → Crossed (write_rises p w) (read_rises p r) p.skew.write r.count (write_sight w)
    (write_sight (write_after depth m p r w))
unfolding write_after second_after_write
write_stages_lem depth m p r w = crossed (write_rises p w) (read_rises p r) p.skew.write r.count (write_sight w)

pub read_stages_lem : (n : ℕ) (p : Pins) (fetched : ℕ) (w : WriteSide) (r : ReadSide)
    → Crossed (read_rises p r) (write_rises p w) p.skew.read w.count (read_sight r)
    (read_sight (read_after n p fetched w r))
unfolding read_after second_after_read
read_stages_lem n p fetched w r = crossed (read_rises p r) (write_rises p w) p.skew.read w.count (read_sight r)
