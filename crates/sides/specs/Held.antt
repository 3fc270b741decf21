-- A side whose own clock does not rise: what can still change is given.
use Rattle.std.specs.Prelude.{Bool, Option}
use Rattle.counts.specs.declared.round.WriteCount.{WriteCount}
use Rattle.counts.specs.declared.round.ReadCount.{ReadCount}
use Rattle.sides.specs.declared.read.ReadSide.{ReadSide}
use Rattle.sides.specs.declared.write.WriteSide.{WriteSide}
use Rattle.views.specs.declared.retransmit.View.{View}

abbrev pub held_write : Bool → Option ReadCount → View → WriteSide → WriteSide
held_write level latest view w = record {
  level = level;
  count = w.count;
  wrapped = w.wrapped;
  first = w.first;
  second = w.second;
  latest = latest;
  view = view;
  paf = w.paf;
}

abbrev pub held_read : Bool → Option WriteCount → ReadSide → ReadSide
held_read level latest r = record {
  level = level;
  count = r.count;
  first = r.first;
  second = r.second;
  latest = latest;
  setup = r.setup;
  pae = r.pae;
  mode = r.mode;
  output = r.output;
}
