-- Order 4: the wiring column by column, the first part, one between, and the last.
use Rattle.std.specs.Prelude.{Bool, true, false, ◌≡◌}
use Rattle.std.proofs.Math.Path.{refl}
use Rattle.pins.specs.declared.answer.Lines.{Lines}
use Rattle.pins.specs.declared.record.Pins.{Pins}
use Rattle.pins.specs.declared.record.Skew.{Skew}
use Rattle.links.specs.declared.record.Links.{Links}
use Rattle.links.specs.Wire.{ends_of, wired}

-- what every part has of the record, with its own marks
pub record Common (x : Links) (marks : Skew) (p : Pins) : Type 0 where
  pub mrs : p.mrs ≡ x.pins.mrs
  pub prs : p.prs ≡ x.pins.prs
  pub ld : p.ld ≡ x.pins.ld
  pub sen : p.sen ≡ x.pins.sen
  pub rt : p.rt ≡ x.pins.rt
  pub fwft : p.fwft ≡ x.pins.fwft
  pub skew : p.skew ≡ marks

-- the write side of a part: of the record at the first part
pub record OuterWrite (x : Links) (p : Pins) : Type 0 where
  pub wclk : p.wclk ≡ x.pins.wclk
  pub wen : p.wen ≡ x.pins.wen
  pub d : p.d ≡ x.pins.d
  pub unsettled : p.unsettled ≡ x.pins.unsettled

-- and elsewhere the transfer clock, with OR and Q of the part before, settled
pub record InnerWrite (x : Links) (earlier : Lines) (p : Pins) : Type 0 where
  pub wclk : p.wclk ≡ x.clock
  pub wen : p.wen ≡ earlier.ef
  pub d : p.d ≡ earlier.q
  pub unsettled : p.unsettled ≡ false

-- the read side: of the record at the last part
pub record OuterRead (x : Links) (p : Pins) : Type 0 where
  pub rclk : p.rclk ≡ x.pins.rclk
  pub ren : p.ren ≡ x.pins.ren
  pub oe : p.oe ≡ x.pins.oe

-- and elsewhere the transfer clock, with IR of the part after, and OE LOW
pub record InnerRead (x : Links) (later : Lines) (p : Pins) : Type 0 where
  pub rclk : p.rclk ≡ x.clock
  pub ren : p.ren ≡ later.ff
  pub oe : p.oe ≡ false

module _ (x : Links) (marks : Skew) (earlier later : Lines) where
  pub common : (first last : Bool) → Common x marks (wired x marks first last earlier later)
  unfolding wired
  common first last = record { mrs = refl; prs = refl; ld = refl; sen = refl; rt = refl; fwft = refl; skew = refl }

  pub first_part : let p = wired x marks true false earlier later in OuterWrite x p × InnerRead x later p
  unfolding wired
  first_part = (record { wclk = refl; wen = refl; d = refl; unsettled = refl }, record { rclk = refl; ren = refl; oe = refl })

  pub inner_part : let p = wired x marks false false earlier later in InnerWrite x earlier p × InnerRead x later p
  unfolding wired
  inner_part = (record { wclk = refl; wen = refl; d = refl; unsettled = refl }, record { rclk = refl; ren = refl; oe = refl })

  pub last_part : let p = wired x marks false true earlier later in InnerWrite x earlier p × OuterRead x p
  unfolding wired
  last_part = (record { wclk = refl; wen = refl; d = refl; unsettled = refl }, record { rclk = refl; ren = refl; oe = refl })

-- the answer: IR and PAF of the first part, OR, HF, PAE, driven and Q of the last
pub answered : (first last : Lines) → let l = ends_of first last in
    (l.ff ≡ first.ff) × (l.paf ≡ first.paf) × (l.ef ≡ last.ef) × (l.hf ≡ last.hf) × (l.pae ≡ last.pae) × (l.driven ≡ last.driven) × (l.q ≡ last.q)
unfolding ends_of
answered first last = (refl, refl, refl, refl, refl, refl, refl)
