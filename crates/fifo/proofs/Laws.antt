-- One law for each way out of a step and of a sample.
use Prim.Native.Nat.{ℕ, zero, suc, ◌≤◌}
use mathlib.Core.Bool.{true, false}
use mathlib.Core.List.{List, [], ◌∷◌}
use mathlib.Core.Path.{◌≡◌, refl, sym, ap, ◌∙◌}
use lib.ListN.{get_or, length}
use borrow.Author.Tests.{eq-eqb, ne_eqb}
use native.Mathlib.Nat.{le_of_suc-le-suc, not-suc-le-zero}
use Rattle.std.specs.Prelude.{None, Option, Some}
use Rattle.chip.specs.declared.state.State.{State}
use Rattle.chip.specs.State.{passes}
use Rattle.counts.specs.declared.part.Part.{Part}
use Rattle.counts.specs.Part.{part_of}
use Rattle.pins.specs.declared.record.Pins.{Pins}
use Rattle.pins.specs.Record.{pins_of}
use Rattle.fifo.specs.Outcome.{Sampled}
use Rattle.fifo.specs.NumberLaws.{Numbered, sample_numbered, step_numbered}
use Rattle.fifo.specs.Sample.{After, Gives, Samples, Steps, is_depth, number_of, record_refusal, sampled, stepped, taken, turned_away}

pub none_past : (words : List ℕ) (place : ℕ) → length words ≤ place → 0 ≡ get_or words place 0
none_past [] place h = refl
none_past (x ∷ xs) zero h = absurd (not-suc-le-zero h)
none_past (x ∷ xs) (suc place) h = none_past xs place (le_of_suc-le-suc h)

gives_by : {a b : After} {r : Sampled} {memory : List ℕ} → a ≡ b → Gives b r memory → Gives a r memory
gives_by e g = record { result = g.result ∙ sym (cc e); words = g.words ∙ sym (cc e) }

numbered_by : {number : ℕ} {a : After} {s : State} {memory after : List ℕ} {r : Sampled} → Numbered number a s memory → Gives a r after
    → number_of r.outcome ≡ number
numbered_by n g = ap (λ (r : Sampled). number_of r.outcome) g.result ∙ n.told

module _ {x : ℕ} {s : State} {memory after : List ℕ} {r : Sampled} {b : After} where
  pub steps_by : {part : Part} → stepped part x s memory ≡ b → Gives b r after → Steps part x s memory r after
  steps_by e g = let h = gives_by e g in record { refusal = numbered_by (step_numbered s memory x _) h; gives = h }

  pub samples_by : {number : ℕ} → sampled number x s memory ≡ b → Gives b r after → Samples number x s memory r after
  samples_by e g = let h = gives_by e g in record { refusal = numbered_by (sample_numbered s memory x _) h; gives = h }

pub gives_refusal : {number : ℕ} {s : State} {r : Sampled} {memory : List ℕ} → r ≡ (turned_away number s memory).sampled
    → Gives (turned_away number s memory) r memory
gives_refusal e = record { result = e; words = refl }

module _ (part : Part) (x : ℕ) (s : State) (memory : List ℕ) {number : ℕ} (f : number ≡ record_refusal part x s) where
  pub stepped_takes : {p : Pins} → p ≡ pins_of x → number ≡ 0 → stepped part x s memory ≡ taken part p s memory
  unfolding stepped
  stepped_takes e z = rw (← e) (simp (eq-eqb _ _ (sym f ∙ z)))

  pub stepped_refuses : (number ≡ 0 → ⊥) → stepped part x s memory ≡ turned_away number s memory
  unfolding stepped
  stepped_refuses n = rw (← f) (simp (ne_eqb _ _ n))

module _ (number x : ℕ) (s : State) (memory : List ℕ) {looked : Option Part} (e : looked ≡ part_of number) where
  pub sample_unknown : looked ≡ None → sampled number x s memory ≡ turned_away 1 s memory
  unfolding sampled
  sample_unknown u = simp (← e, u)

  module _ (part : Part) (k : looked ≡ Some part) where
    pub sample_length : is_depth part (length memory) ≡ false → sampled number x s memory ≡ turned_away 2 s memory
    unfolding sampled
    sample_length d = simp (← e, k, d)

    pub sample_state : is_depth part (length memory) ≡ true → passes part s ≡ false → sampled number x s memory ≡ turned_away 3 s memory
    unfolding sampled
    sample_state d t = simp (← e, k, d, t)

    pub sample_steps : is_depth part (length memory) ≡ true → passes part s ≡ true → sampled number x s memory ≡ stepped part x s memory
    unfolding sampled
    sample_steps d t = simp (← e, k, d, t)
