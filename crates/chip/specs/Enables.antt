-- Enables before retransmit, paper 02, order 3: what is remembered of RT, REN and WEN.
use Rattle.std.specs.Prelude.{Bool, true, not, cond, ◌&&◌}
use Rattle.pins.specs.declared.record.Pins.{Pins}
use Rattle.chip.specs.declared.enables.Enables.{Enables}

-- at power-up all three count as HIGH, and no fall was unclean
abbrev pub all_high : Enables
all_high = record { rt = true; ren = true; wen = true; clean = true }

-- RT was HIGH in the last sample taken and is LOW in this one
abbrev pub rt_falls : Pins → Enables → Bool
rt_falls p last = last.rt && not p.rt

-- both enables are HIGH in this sample, and were in the one taken before it
abbrev pub both_high : Pins → Enables → Bool
both_high p last = p.ren && p.wen && last.ren && last.wen

-- the last fall, which is this sample's where RT falls in it
unfoldable pub last_fall_clean : Pins → Enables → Bool
last_fall_clean p last = cond (rt_falls p last) (both_high p last) last.clean

-- a sample that is taken is remembered, whatever the resets and the clocks do in it
unfoldable pub enables_after : Pins → Enables → Enables
enables_after p last = record { rt = p.rt; ren = p.ren; wen = p.wen; clean = last_fall_clean p last }
