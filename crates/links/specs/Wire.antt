-- Order 4: how the parts of a chain are wired.
use Rattle.std.specs.Prelude.{Bool, false, cond}
use Rattle.pins.specs.declared.answer.Lines.{Lines}
use Rattle.pins.specs.declared.record.Pins.{Pins}
use Rattle.pins.specs.declared.record.Skew.{Skew}
use Rattle.links.specs.declared.record.Links.{Links}

-- by whether the part is the first and whether it is the last, and by what its neighbours show before the sample: the record's pins at both ends
-- of the chain, the transfer clock between; OR and Q of the earlier part give WEN and D, IR of the later part gives REN
unfoldable pub wired : Links → Skew → Bool → Bool → Lines → Lines → Pins
wired x marks first last earlier later = record {
  mrs = x.pins.mrs;
  prs = x.pins.prs;
  wclk = cond first x.pins.wclk x.clock;
  rclk = cond last x.pins.rclk x.clock;
  wen = cond first x.pins.wen earlier.ef;
  ren = cond last x.pins.ren later.ff;
  ld = x.pins.ld;
  sen = x.pins.sen;
  rt = x.pins.rt;
  fwft = x.pins.fwft;
  oe = cond last x.pins.oe false;
  skew = marks;
  unsettled = cond first x.pins.unsettled false;
  d = cond first x.pins.d earlier.q;
}

-- what the chain answers: IR and PAF of the first part, the rest of the last
unfoldable pub ends_of : Lines → Lines → Lines
ends_of first last = record {
  ff = first.ff;
  ef = last.ef;
  hf = last.hf;
  pae = last.pae;
  paf = first.paf;
  driven = last.driven;
  q = last.q;
}
