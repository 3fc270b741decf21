-- Order 4: the wiring of a part from what is carried from part to part: what the part before it showed, and the state after its own.
use Rattle.std.specs.Prelude.{ℕ, ◌+◌, ◌-◌, ◌≤◌, ◌<◌, Bool, true, false, ◌≡◌, eqb}
use Rattle.std.proofs.Math.Path.{refl}
use Rattle.std.proofs.Common.{eq-eqb, arith}
use Rattle.std.proofs.Math.Decide.{dec_lt}
use Rattle.chip.specs.declared.state.State.{State}
use Rattle.chip.specs.Answer.{lines_of}
use Rattle.counts.specs.declared.part.Part.{Part}
use Rattle.links.specs.declared.record.Links.{Links}
use Rattle.links.specs.Record.{marks_of}
use Rattle.links.specs.Wire.{wired}
use Rattle.pins.specs.declared.answer.Lines.{Lines}
use Rattle.pins.specs.declared.record.Pins.{Pins}
use Rattle.pins.specs.declared.record.Skew.{Skew}
use Rattle.rows.specs.declared.row.Row.{Row}
use Rattle.rows.specs.Step.{shown_by, state_of, wired_to}

-- the last part looks at none after it
wired_last : (x : Links) (marks : Skew) (first last : Bool) (earlier later other : Lines) → last ≡ true → wired x marks first last earlier later ≡ wired x marks first last earlier other
unfolding wired
wired_last x marks first last earlier later other e = rw e refl

module _ (part : Part) (x : Links) (row : Row) (i : ℕ) where
  abbrev pub seen : Lines → State → Pins
  seen earlier later = wired x (marks_of x.more i) (eqb i 0) (eqb (i + 1) row.count) earlier (lines_of part false later)

  -- the state after its own is at hand but for the eighth part, which is the last
  pub wired_now : i < row.count → row.count ≤ 8 → {earlier : Lines} → earlier ≡ shown_by part row (i - 1) → {later : State} → (i < 7 → later ≡ state_of row (i + 1))
      → seen earlier later ≡ wired_to part x row i
  unfolding wired_to
  wired_now below most {earlier} e {later} f = go (dec_lt i 7)
    where
      go : Dec (i < 7) → seen earlier later ≡ wired x (marks_of x.more i) (eqb i 0) (eqb (i + 1) row.count) (shown_by part row (i - 1)) (shown_by part row (i + 1))
      go (yes l) = rw (e, f l) refl
      go (no n) = rw e (wired_last x (marks_of x.more i) (eqb i 0) (eqb (i + 1) row.count) (shown_by part row (i - 1)) _ _ (eq-eqb (i + 1) row.count (omega (arith, below, most, n))))
