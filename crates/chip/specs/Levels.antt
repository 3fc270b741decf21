-- What the laws speak of. Trace sample: levels, and a rise between the level last accepted and the present one. Enables before retransmit:
-- falls of RT. The two sides: differences of counts and stages, round the width.
use Rattle.std.specs.Prelude.{ℕ, ◌+◌, ◌-◌, ◌%◌, ◌^◌, Bool, true, false, ◌⊎◌, ◌≡◌}
use Rattle.pins.specs.declared.record.Pins.{Pins}
use Rattle.chip.specs.declared.enables.Enables.{Enables}
use Rattle.chip.specs.declared.state.State.{State}

abbrev pub High : Bool → Type 0
High level = level ≡ true

abbrev pub Low : Bool → Type 0
Low level = level ≡ false

abbrev pub Rise : Bool → Bool → Type 0
Rise last now = Low last × High now

abbrev pub WriteRise : Pins → State → Type 0
WriteRise p s = Rise s.write.level p.wclk

abbrev pub ReadRise : Pins → State → Type 0
ReadRise p s = Rise s.read.level p.rclk

-- RT falls in this sample
abbrev pub Fall : Pins → Enables → Type 0
Fall p last = High last.rt × Low p.rt

-- both enables are HIGH in this sample and were in the last one taken
abbrev pub BothHigh : Pins → Enables → Type 0
BothHigh p last = High p.ren × High p.wen × High last.ren × High last.wen

-- the fall that RT LOW belongs to was unclean: this sample's, or with none in it the one remembered
abbrev pub Unclean : Pins → Enables → Type 0
Unclean p last = (Fall p last × ¬ BothHigh p last) ⊎ ((¬ Fall p last) × Low last.clean)

-- no reset in this sample
abbrev pub Outside : Pins → Type 0
Outside p = High p.mrs × High p.prs

abbrev pub less_round : ℕ → ℕ → ℕ
less_round count earlier = (count + (2 ^ 16 - earlier)) % 2 ^ 16
