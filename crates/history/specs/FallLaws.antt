-- Enables before retransmit, paper 02, order 3: from power-up, 8 comes by what the onlooker remembers of RT, REN and WEN.
use Rattle.std.specs.Prelude.{ℕ, Bool, cond, ◌⊎◌, ◌↔◌, ◌≡◌, eqb, length}
use Rattle.std.proofs.Math.Bool.{true, false}
use mathlib.Core.List.{List, [], ◌∷◌, ◌++◌}
use Rattle.std.proofs.Common.{inl, inr, ⊎_elim, sym, ◌∙◌}
use Rattle.std.proofs.Math.Path.{refl, ap, subst}
use Rattle.chip.specs.declared.enables.Enables.{Enables}
use Rattle.chip.specs.declared.state.State.{State}
use Rattle.chip.specs.Advance.{advanced}
use Rattle.chip.specs.Enables.{enables_after, last_fall_clean}
use Rattle.chip.specs.EnablesLaws.{enables_moved, unclean_told}
use Rattle.chip.specs.Levels.{High, Low, ReadRise, Unclean}
use Rattle.chip.specs.Reset.{cleared, powered_up}
use Rattle.counts.specs.declared.part.Part.{Part}
use Rattle.counts.specs.Part.{depth_of}
use Rattle.fifo.specs.NumberLaws.{by_pins, step_numbered}
use Rattle.fifo.specs.Sample.{After, fetched_for, is_taken, number_of, record_refusal, stepped, taken, turned_away}
use Rattle.pins.specs.declared.record.Pins.{Pins}
use Rattle.pins.specs.Record.{pins_of}
use Rattle.refusals.specs.EightLaws.{Reaches, eight_exactly}
use Rattle.views.specs.TrueCounts.{TrueCounts, no_counts}
use Rattle.history.specs.Falls.{clean_in, high_with, latest, remembered_of, taken_of, taken_with}
use Rattle.history.specs.LedLaws.{counts_led, counts_next, sample_steps, told_after, told_next}
use Rattle.history.specs.Told.{Told}
use Rattle.history.specs.Trace.{Moment, led, next, outcome, power_up, takes}

-- RT is LOW in each of some samples
abbrev pub AllLow : List Pins → Type 0
AllLow [] = Unit {0}
AllLow (p ∷ later) = Low p.rt × AllLow later

latest_low : (later : List Pins) (f : Pins) (earlier : List Pins) → AllLow later → Low f.rt → Low (latest (λ q. q.rt) (later ++ (f ∷ earlier)))
latest_low [] f earlier low e = e
latest_low (p ∷ later) f earlier low e = low.0

-- a fall stands, clean or not, for as long as RT stays LOW after it, whatever the enables do
pub fall_stands : (later : List Pins) (f : Pins) (earlier : List Pins) → AllLow later → High (latest (λ q. q.rt) earlier) → Low f.rt
    → clean_in (later ++ (f ∷ earlier)) ≡ high_with f earlier
unfolding clean_in
fall_stands [] f earlier low before e = simp (before, e)
fall_stands (p ∷ later) f earlier low before e = simp (latest_low later f earlier low.1 e) (fall_stands later f earlier low.1 before e)

module _ (part : Part) where
  -- one sample more, taken or not
  moves_by : (p : Pins) (s : State) (memory : List ℕ) (number : ℕ) (earlier : List Pins) → s.enables ≡ remembered_of earlier → (is : Bool)
      → let a = cond is (taken part p s memory) (turned_away number s memory) in
      a.sampled.state.enables ≡ remembered_of (cond (is_taken a.sampled.outcome) (p ∷ earlier) earlier)
  unfolding taken advanced enables_after last_fall_clean clean_in
  moves_by p s memory number earlier e true = enables_moved part p (fetched_for part s memory) s ∙ ap (enables_after p) e
  moves_by p s memory number earlier e false = e

  remembers_next : (m : Moment) (t : TrueCounts) → Told part m t → (earlier : List Pins) → m.state.enables ≡ remembered_of earlier → (x : ℕ)
      → (next part m x).state.enables ≡ remembered_of (taken_with part m x earlier)
  unfolding next takes taken_with stepped
  remembers_next m t g earlier e x =
      subst (λ (a : After). a.sampled.state.enables ≡ remembered_of (cond (is_taken a.sampled.outcome) (pins_of x ∷ earlier) earlier)) (sym (sample_steps part m t g x))
      (moves_by (pins_of x) m.state m.memory (record_refusal part x m.state) earlier e (eqb (record_refusal part x m.state) 0))

  remembers_led : (xs : List ℕ) (m : Moment) (t : TrueCounts) → Told part m t → (earlier : List Pins) → m.state.enables ≡ remembered_of earlier
      → (led part m xs).state.enables ≡ remembered_of (taken_of part m xs earlier)
  unfolding led taken_of
  remembers_led [] m t g earlier e = e
  remembers_led (x ∷ xs) m t g earlier e =
      remembers_led xs (next part m x) (counts_next part m x t) (told_next part m t g x) (taken_with part m x earlier) (remembers_next m t g earlier e x)

module _ (part : Part) (memory : List ℕ) (whole : length memory ≡ depth_of part) (samples : List ℕ) where
  abbrev pub reached : Moment
  reached = led part (power_up memory) samples

  abbrev pub taken_so_far : List Pins
  taken_so_far = taken_of part (power_up memory) samples []

  -- what the state remembers is what the onlooker does
  pub remembered : reached.state.enables ≡ remembered_of taken_so_far
  unfolding power_up powered_up cleared clean_in led counts_led
  remembered = remembers_led part samples (power_up memory) no_counts (told_after part memory whole []) [] refl

  -- so the fall that an RT LOW in the next sample belongs to is the last fall among the samples taken and that one
  pub fall_told : (p : Pins) → (clean_in (p ∷ taken_so_far) ≡ false) ↔ Unclean p reached.state.enables
  unfolding clean_in last_fall_clean
  fall_told p =
      subst (λ (last : Enables). Low (last_fall_clean p last) ↔ Unclean p reached.state.enables) remembered (unclean_told p reached.state.enables)

  -- 8 comes for the next sample exactly where no row before it holds, RCLK rises with RT LOW, and REN or WEN is LOW or that fall was unclean
  pub eight_told : (x : ℕ) → let p = pins_of x in
      (number_of (outcome part reached x).sampled.outcome ≡ 8)
      ↔ (Reaches p reached.state × (ReadRise p reached.state × Low p.rt × ((Low p.ren ⊎ Low p.wen) ⊎ (clean_in (p ∷ taken_so_far) ≡ false))))
  eight_told x =
      let p = pins_of x in
      let steps = sample_steps part reached _ (told_after part memory whole samples) x in
      let number = ap (λ (a : After). number_of a.sampled.outcome) steps ∙ (step_numbered reached.state reached.memory x part).told ∙ by_pins part x reached.state in
      let exactly = eight_exactly part p reached.state in
      let fall = fall_told p in (
        λ e. (let r = exactly.0 (sym number ∙ e) in (r.0, (r.1.0, r.1.1, ⊎_elim (λ low. inl low) (λ u. inr (fall.1 u)) r.1.2))),
        λ all. number ∙ exactly.1 (all.0, (all.1.0, all.1.1, ⊎_elim (λ low. inl low) (λ c. inr (fall.0 c)) all.1.2)),
      )
