-- Two parts side by side: a sample is taken by both or by neither, a refused one moves nothing, a taken one is both parts' own step.
use Rattle.std.specs.Prelude.{ℕ, Bool, true, false, cond, ◌&&◌, List, ◌≢◌, ◌≡◌, eqb, length, Option, Some, None}
use Rattle.std.proofs.Common.{true≢false, sym, ap, ◌∙◌, arith, eq-eqb, eqb-true}
use Rattle.std.proofs.Math.Path.{refl}
use Rattle.chip.specs.declared.state.State.{State}
use Rattle.chip.specs.State.{widths}
use Rattle.counts.specs.declared.part.Part.{Part}
use Rattle.counts.specs.Part.{by_part, part_of}
use Rattle.fifo.specs.Outcome as fifo
use Rattle.fifo.specs.Sample as single
use Rattle.fifo.specs.Sample.{answer_in, is_depth, record_refusal, stepped, taken}
use Rattle.fifo.specs.SampleLaws as single-laws
use Rattle.pins.specs.Record.{pins_of}
use Rattle.pair.specs.Outcome.{Taken}
use Rattle.halves.specs.declared.state.Halves.{Halves}
use Rattle.joint.specs.Refuse.{same_pins}
use Rattle.halves.specs.Refuse.{pair_refusal}
use Rattle.pair.specs.Sample.{After, both, is_taken, number_of, pair_sampled, pair_sample_refusal, pair_stepped, turned_away}
use Rattle.halves.specs.State.{passes_both}
use Rattle.halves.specs.Two.{Two, two}

free_by : (same free : Bool) (left right : ℕ) → eqb left 0 ≡ free → cond same (cond free right left) 11 ≡ 0
    → (left ≡ 0) × (right ≡ 0) × (same ≡ true)
free_by true true left right f e = (eqb-true left 0 f, e, refl)
free_by true false left right f e = absurd (true≢false (sym (eq-eqb left 0 e) ∙ f))
free_by false free left right f e = absurd (omega arith)

taken_or_not : {A : Type 0} (P : A → Type 0) (free : Bool) (number : ℕ) (a b : A) → eqb number 0 ≡ free → (number ≡ 0 → P a) → P b → P (cond free a b)
taken_or_not P true number a b e p q = p (eqb-true number 0 e)
taken_or_not P false number a b e p q = q

-- what comes of a number: it is the outcome's, the sample is taken with 0 alone, and with another nothing moved
pub record Numbered (number : ℕ) (a : After) (h : Halves) (memory : Two (List ℕ)) : Type 0 where
  pub told : number_of a.sampled.outcome ≡ number
  pub takes : is_taken a.sampled.outcome ≡ eqb number 0
  pub still : number ≢ 0 → a ≡ turned_away number h memory

module _ (h : Halves) (memory : Two (List ℕ)) where
  turned : (number : ℕ) → eqb number 0 ≡ false → Numbered number (turned_away number h memory) h memory
  turned number e = record { told = refl; takes = sym e; still = λ n. refl }

  by_refusal : (free : Bool) (number : ℕ) (left right : single.After) → eqb number 0 ≡ free
      → Numbered number (cond free (both left right) (turned_away number h memory)) h memory
  by_refusal true number left right e = let none = eqb-true number 0 e in record { told = sym none; takes = sym e; still = λ n. absurd (n none) }
  by_refusal false number left right e = turned number e

  by_tests : (sized passed : Bool) {number : ℕ} {a : After} → Numbered number a h memory
      → Numbered (cond sized (cond passed number 3) 2) (cond sized (cond passed a (turned_away 3 h memory)) (turned_away 2 h memory)) h memory
  by_tests true true n = n
  by_tests true false n = turned 3 refl
  by_tests false passed n = turned 2 refl

pub single_taken : (part : Part) (x : ℕ) (s : State) (memory : List ℕ) → record_refusal part x s ≡ 0 → stepped part x s memory ≡ taken part (pins_of x) s memory
unfolding stepped
single_taken part x s memory e = simp (eq-eqb _ _ e)

single_answer : (part : Part) (x : ℕ) (s : State) (memory : List ℕ) → record_refusal part x s ≡ 0
    → (stepped part x s memory).sampled.outcome ≡ fifo.Taken (answer_in (stepped part x s memory).sampled.outcome)
unfolding taken
single_answer part x s memory e = simp (single_taken part x s memory e)

module _ (part : Part) (x : Two ℕ) (h : Halves) where
  pub free_both : pair_refusal part x h ≡ 0
      → (record_refusal part x.left h.left ≡ 0) × (record_refusal part x.right h.right ≡ 0) × (same_pins x.left x.right ≡ true)
  unfolding pair_refusal
  free_both =
      free_by (same_pins x.left x.right) (eqb (record_refusal part x.left h.left) 0)
      (record_refusal part x.left h.left) (record_refusal part x.right h.right) refl

  module _ (memory : Two (List ℕ)) where
    abbrev each_stepped : After
    each_stepped = both (stepped part x.left h.left memory.left) (stepped part x.right h.right memory.right)

    pub step_both : pair_refusal part x h ≡ 0 → pair_stepped part x h memory ≡ each_stepped
    unfolding pair_stepped
    step_both e = simp (eq-eqb _ _ e)

    pub step_takes : pair_refusal part x h ≡ 0
        → pair_stepped part x h memory
        ≡ both (taken part (pins_of x.left) h.left memory.left) (taken part (pins_of x.right) h.right memory.right)
    step_takes e =
        let free = free_both e in
        step_both e ∙ simp (single_taken part x.left h.left memory.left free.0, single_taken part x.right h.right memory.right free.1)

    pub step_numbered : Numbered (pair_refusal part x h) (pair_stepped part x h memory) h memory
    unfolding pair_stepped
    step_numbered =
        by_refusal h memory (eqb (pair_refusal part x h) 0) (pair_refusal part x h)
        (stepped part x.left h.left memory.left) (stepped part x.right h.right memory.right) refl

    -- a property of both parts' own steps, where the sample is taken, and of the refusal, where it is not, is one of the pair's step
    pub step_by : (P : After → Type 0) → (pair_refusal part x h ≡ 0 → P each_stepped) → P (turned_away (pair_refusal part x h) h memory)
        → P (pair_stepped part x h memory)
    unfolding pair_stepped
    step_by P = taken_or_not P (eqb (pair_refusal part x h) 0) (pair_refusal part x h) each_stepped (turned_away (pair_refusal part x h) h memory) refl

    pub step_widths : widths part h.left ≡ true → widths part h.right ≡ true → let after = (pair_stepped part x h memory).sampled.state in
        (widths part after.left ≡ true) × (widths part after.right ≡ true)
    step_widths e f =
        step_by (λ (a : After). (widths part a.sampled.state.left ≡ true) × (widths part a.sampled.state.right ≡ true))
        (λ none. (single-laws.step_widths part x.left h.left memory.left e, single-laws.step_widths part x.right h.right memory.right f))
        (e, f)

    pub step_lengths : let after = (pair_stepped part x h memory).memory in
        (length after.left ≡ length memory.left) × (length after.right ≡ length memory.right)
    step_lengths =
        step_by (λ (a : After). (length a.memory.left ≡ length memory.left) × (length a.memory.right ≡ length memory.right))
        (λ none. (single-laws.step_length part x.left h.left memory.left, single-laws.step_length part x.right h.right memory.right))
        (refl, refl)

    -- taken: both parts' own steps, which are taken with these answers
    pub taken_both_lem : (left right : ℕ) → (pair_stepped part x h memory).sampled.outcome ≡ Taken left right
        → (pair_refusal part x h ≡ 0) × (pair_stepped part x h memory ≡ each_stepped)
        × ((stepped part x.left h.left memory.left).sampled.outcome ≡ fifo.Taken left)
        × ((stepped part x.right h.right memory.right).sampled.outcome ≡ fifo.Taken right)
    taken_both_lem left right e =
        let none = eqb-true (pair_refusal part x h) 0 (sym step_numbered.takes ∙ ap is_taken e) in
        let free = free_both none in
        let l = single_answer part x.left h.left memory.left free.0 in
        let r = single_answer part x.right h.right memory.right free.1 in
        let s = step_both none in
        let given : each_stepped.sampled.outcome ≡ Taken left right = ap (λ (a : After). a.sampled.outcome) (sym s) ∙ e in
        (none, s, cc, cc)

module _ (h : Halves) (memory : Two (List ℕ)) (x : Two ℕ) where
  by_part_lem : (looked : Option Part)
      → Numbered (by_part looked (λ part. cond (is_depth part (length memory.left) && is_depth part (length memory.right)) (cond (passes_both part h) (pair_refusal part x h) 3) 2) 1)
      (by_part looked
      (λ part. cond (is_depth part (length memory.left) && is_depth part (length memory.right)) (cond (passes_both part h) (pair_stepped part x h memory) (turned_away 3 h memory)) (turned_away 2 h memory))
      (turned_away 1 h memory)) h memory
  by_part_lem (Some part) = by_tests h memory (is_depth part (length memory.left) && is_depth part (length memory.right)) (passes_both part h) (step_numbered part x h memory)
  by_part_lem None = turned h memory 1 refl

  pub sample_numbered : (number : ℕ) → Numbered (pair_sample_refusal number x h (two (length memory.left) (length memory.right))) (pair_sampled number x h memory) h memory
  unfolding pair_sampled pair_sample_refusal
  sample_numbered number = by_part_lem (part_of number)

-- a sample for a part, memories and a state that pass 1 to 3 is the step
pub sample_is_step : (number : ℕ) (x : Two ℕ) (h : Halves) (memory : Two (List ℕ)) (part : Part) → part_of number ≡ Some part
    → is_depth part (length memory.left) && is_depth part (length memory.right) ≡ true → passes_both part h ≡ true
    → pair_sampled number x h memory ≡ pair_stepped part x h memory
unfolding pair_sampled
sample_is_step number x h memory part k d t = simp (k, d, t)
