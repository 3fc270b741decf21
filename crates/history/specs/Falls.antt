-- Enables before retransmit, paper 02, order 3, told by the onlooker from the samples that were taken, the latest first. Resets are among
-- them, and samples in which no clock rises; refused ones are not.
use Rattle.std.specs.Prelude.{ℕ, Bool, true, not, cond, ◌&&◌, List, [], ◌∷◌}
use Rattle.chip.specs.declared.enables.Enables.{Enables}
use Rattle.counts.specs.declared.part.Part.{Part}
use Rattle.pins.specs.declared.record.Pins.{Pins}
use Rattle.pins.specs.Record.{pins_of}
use Rattle.history.specs.Trace.{Moment, next, takes}

-- a pin's level in the latest sample; before any, RT and the enables count as HIGH
abbrev pub latest : (Pins → Bool) → List Pins → Bool
latest pin [] = true
latest pin (p ∷ earlier) = pin p

-- RT falls with this sample
abbrev pub falls_with : Pins → List Pins → Bool
falls_with p earlier = latest (λ q. q.rt) earlier && not p.rt

-- REN and WEN are HIGH in this sample and in the one taken before it
abbrev pub high_with : Pins → List Pins → Bool
high_with p earlier = p.ren && p.wen && latest (λ q. q.ren) earlier && latest (λ q. q.wen) earlier

-- whether they were at the last fall of all
unfoldable pub clean_in : List Pins → Bool
clean_in [] = true
clean_in (p ∷ earlier) = cond (falls_with p earlier) (high_with p earlier) (clean_in earlier)

abbrev pub remembered_of : List Pins → Enables
remembered_of samples = record {
  rt = latest (λ q. q.rt) samples;
  ren = latest (λ q. q.ren) samples;
  wen = latest (λ q. q.wen) samples;
  clean = clean_in samples;
}

module _ (part : Part) where
  unfoldable pub taken_with : Moment → ℕ → List Pins → List Pins
  taken_with m x earlier = cond (takes part m x) (pins_of x ∷ earlier) earlier

  -- those taken among samples, before others that were taken earlier
  unfoldable pub taken_of : Moment → List ℕ → List Pins → List Pins
  taken_of m [] earlier = earlier
  taken_of m (x ∷ xs) earlier = taken_of (next part m x) xs (taken_with m x earlier)
