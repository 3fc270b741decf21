-- Order 4, what is turned away: from power-up on a part other than the first refuses nothing that has passed 4, 5 and 14, and the first only a word
-- that had not settled; and every part passes the test of 3.
use Rattle.std.specs.Prelude.{ℕ, zero, suc, ◌-◌, ◌≤◌, ◌<◌, Bool, false, cond, ◌&&◌, ◌||◌, List, ◌⊎◌, ◌≡◌, eqb}
use Rattle.std.proofs.Math.Bool.{true, not, and-false, or-true}
use Rattle.std.proofs.Common.{inl, inr, ⊎_elim, ◌∙◌, eqb-true, arith}
use Rattle.std.proofs.Math.Path.{refl, sym, ap}
use Rattle.rows.specs.declared.row.Row.{Row}
use Rattle.rows.specs.Step.{Moving, chain_refusal, chain_stepped, judged_to, passes_part, passes_to, started_to, state_of, took, turned_away, wired_to}
use Rattle.rows.specs.StepLaws.{all_by}
use Rattle.chip.specs.declared.state.State.{State}
use Rattle.chip.specs.Reset.{cleared, powered_up}
use Rattle.chip.specs.ResetLaws.{is_fwft}
use Rattle.chip.specs.State.{passes}
use Rattle.counts.specs.declared.part.Part.{Part}
use Rattle.counts.specs.Either.{either}
use Rattle.fifo.specs.Sample.{number_of}
use Rattle.links.specs.declared.record.Links.{Links}
use Rattle.links.specs.Refuse.{least}
use Rattle.links.specs.Wire.{wired}
use Rattle.pins.specs.declared.record.Pins.{Pins}
use Rattle.refusals.specs.ReachLaws.{reached_passes}
use Rattle.refusals.specs.Refuse.{from_six, refusal_of, refuses_eight, refuses_nine, refuses_seven, refuses_six, refuses_ten, refuses_twelve}
use Rattle.sides.specs.Read.{retransmits}
use Rattle.views.specs.declared.retransmit.View.TheVariants.{Seen}
use Rattle.history.specs.Onlooker.{outside}
use Rattle.linked.specs.Chaining.{Chain, chain_outcome, moment_of}
use Rattle.linked.specs.Linked.{Linked, Running, Unused, going}
use Rattle.linked.specs.PassedLaws.{Passed, refusal_at, started_each, whole_numbers}
use Rattle.linked.specs.WiringLaws.{handed}

five_passed : (mrs started : Bool) → (mrs ≡ true → started ≡ true) → not started && mrs ≡ false
five_passed mrs true h = refl
five_passed false false h = refl
five_passed true false h = sym (h refl)

-- with RT and LD HIGH and no retransmit unseen only the mark is left
from_six_lem : (part : Part) (p : Pins) (s : State) → p.rt ≡ true → p.ld ≡ true → s.write.view ≡ Seen
    → from_six part p s ≡ cond (refuses_twelve p s) 12 0
unfolding refuses_six refuses_seven refuses_eight refuses_nine refuses_ten retransmits
from_six_lem part p s rt ld view = simp (rt, ld, view, and-false)

-- the numbers of one part that has had its Master Reset, where it is not reset
number_by : (part : Part) (p : Pins) (s : State) (away : Bool) → outside p ≡ away → (p.mrs ≡ true → s.started ≡ true)
    → (outside p ≡ true → (p.rt ≡ true) × (p.ld ≡ true)) → (outside p ≡ true → s.write.view ≡ Seen)
    → refusal_of part p s ≡ cond away (cond (refuses_twelve p s) 12 0) 0
unfolding refusal_of
number_by part p s true e begun high view = simp (five_passed p.mrs s.started begun, e) (from_six_lem part p s (high e).0 (high e).1 (view e))
number_by part p s false e begun high view = simp (five_passed p.mrs s.started begun, e)

-- of the numbers that the parts give, where only the first gives one
first_only : (part : Part) (x : Links) (row : Row) (k : ℕ) → ((i : ℕ) → i < k → refusal_at part x row (suc i) ≡ 0)
    → judged_to part x row (suc k) ≡ refusal_at part x row 0
unfolding judged_to least
first_only part x row zero h = refl
first_only part x row (suc k) h =
    let first = refusal_at part x row 0 in
    rw (first_only part x row k (λ i l. h i (omega arith)), h k (omega arith)) (alone_by first (eqb first 0) refl)
  where
    alone_by : (number : ℕ) (none : Bool) → eqb number 0 ≡ none → cond none 0 number ≡ number
    alone_by number true e = sym (eqb-true number 0 e)
    alone_by number false e = refl

numbered_by : (free : Bool) (part : Part) (p : Pins) (m : Moving) (number : ℕ) (row : Row) (memory : List ℕ) → eqb number 0 ≡ free
    → number_of (cond free (took part p m) (turned_away number row memory)).outcome ≡ number
numbered_by true part p m number row memory e = sym (eqb-true number 0 e)
numbered_by false part p m number row memory e = refl

-- the number of a sample's outcome
pub outcome_number : (part : Part) (c : Chain) (x : Links) → number_of (chain_outcome part c x).outcome ≡ chain_refusal part x c.row
unfolding chain_outcome chain_stepped
outcome_number part c x = numbered_by (eqb (chain_refusal part x c.row) 0) part x.pins _ (chain_refusal part x c.row) c.row c.memory refl

-- taken, 4, 5, 14 or 12
abbrev pub Comes : ℕ → Type 0
Comes number = (number ≡ 0) ⊎ (number ≡ 4) ⊎ (number ≡ 5) ⊎ (number ≡ 14) ⊎ (number ≡ 12)

comes_by : (away twelve : Bool) → Comes (cond away (cond twelve 12 0) 0)
comes_by true true = inr (inr (inr (inr refl)))
comes_by true false = inl refl
comes_by false twelve = inl refl

-- before a Master Reset a part is in no mode
in_no_mode : (s : State) → s ≡ powered_up → not s.started || is_fwft s.read.mode ≡ true
unfolding powered_up cleared
in_no_mode s e = ap (λ (t : State). not t.started || is_fwft t.read.mode) e

at_rest : (p : Pins) (s : State) → p.unsettled ≡ false → refuses_twelve p s ≡ false
unfolding refuses_twelve
at_rest p s e = simp (e, and-false)

module _ (part : Part) (n : ℕ) (c : Chain) (h : Linked part n c) where
  -- every part passes 3
  part_passes : (i : ℕ) → i < n → passes_part part (state_of c.row i) ≡ true
  unfolding passes_part moment_of
  part_passes i l =
      let told = h.chained.told i l in
      let passed : passes part (state_of c.row i) ≡ true = reached_passes part (state_of c.row i) (h.chained.counts i) told.reached in
      rw passed
      (⊎_elim (λ (unused : Unused n c). in_no_mode (state_of c.row i) (unused i l).0)
      (λ (run : Running part n c). ap (λ (fwft : Bool). not (state_of c.row i).started || fwft) (sym told.agrees.fwft ∙ (run i l).1.fwft)
      ∙ or-true (not (state_of c.row i).started))
      h.stage)

  pub all_pass : (j : ℕ) → j ≤ n → passes_to part c.row j ≡ true
  all_pass j l = all_by (passes_part part) c.row j (λ i below. part_passes i (omega arith))

  module _ (x : Links) (passed : Passed x (started_to c.row c.row.count)) where
    -- the number of a part: 12 or none
    abbrev twelve_at : ℕ → Bool
    twelve_at i = refuses_twelve (wired_to part x c.row i) (state_of c.row i)

    number_at : (i : ℕ) → i < n → refusal_at part x c.row i ≡ cond (outside x.pins) (cond (twelve_at i) 12 0) 0
    unfolding moment_of wired_to wired
    number_at i l =
        number_by part (wired_to part x c.row i) (state_of c.row i) (outside x.pins) refl
        (λ high. started_each part x c.row c.row.count (passed.begun high) i (omega (arith, h.chained.count)))
        passed.high (λ away. (going part n c h x passed away i l).1.view)

    -- a transfer is never refused
    pub others_take : (k : ℕ) → suc k < n → refusal_at part x c.row (suc k) ≡ 0
    others_take k l =
        let settled = at_rest (wired_to part x c.row (suc k)) (state_of c.row (suc k)) (handed part x c.row k).unsettled in
        number_at (suc k) l ∙ rw settled (either (λ (number : ℕ). number ≡ 0) (outside x.pins) 0 0 refl refl)

    pub first_refuses : judged_to part x c.row c.row.count ≡ refusal_at part x c.row 0
    first_refuses =
        let many : c.row.count ≡ suc (n - 1) = omega (arith, h.some, h.chained.count) in
        ap (judged_to part x c.row) many ∙ first_only part x c.row (n - 1) (λ i l. others_take i (omega (arith, h.some)))

  pub only_these : (x : Links) → Comes (number_of (chain_outcome part c x).outcome)
  unfolding chain_refusal
  only_these x =
      rw (outcome_number part c x)
      (whole_numbers Comes x (started_to c.row c.row.count) (judged_to part x c.row c.row.count)
      (inr (inl refl)) (inr (inr (inl refl))) (inr (inr (inr (inl refl))))
      (λ passed. rw (first_refuses x passed, number_at x passed 0 h.some) (comes_by (outside x.pins) (twelve_at x passed 0))))

  -- 12 is about the record's D, and so about the first part alone
  pub twelve_first : (x : Links) → number_of (chain_outcome part c x).outcome ≡ 12 → refusal_at part x c.row 0 ≡ 12
  unfolding chain_refusal
  twelve_first x =
      rw (outcome_number part c x)
      (whole_numbers (λ (number : ℕ). number ≡ 12 → refusal_at part x c.row 0 ≡ 12) x (started_to c.row c.row.count)
      (judged_to part x c.row c.row.count) (λ e. absurd (omega arith)) (λ e. absurd (omega arith)) (λ e. absurd (omega arith))
      (λ passed e. sym (first_refuses x passed) ∙ e))
