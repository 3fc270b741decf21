-- One law for each way out of a step and of a sample of two parts.
use Prim.Native.Nat.{ℕ}
use mathlib.Core.Bool.{Bool, true, false, ◌&&◌}
use mathlib.Core.List.{List}
use mathlib.Core.Path.{◌≡◌, refl, sym, ap, ◌∙◌}
use lib.ListN.{length}
use Rattle.std.specs.Prelude.{None, Option, Some}
use Rattle.counts.specs.declared.part.Part.{Part}
use Rattle.counts.specs.Part.{part_of}
use Rattle.fifo.specs.NameLaws as by_table
use Rattle.fifo.specs.Outcome as fifo
use Rattle.fifo.specs.Sample as single
use Rattle.fifo.specs.Sample.{record_refusal}
use Rattle.refusal_kinds.specs.Numbers as refusals
use Rattle.pair.specs.Outcome.{Sampled}
use Rattle.chip.specs.declared.state.State.{State}
use Rattle.pins.specs.Record.{pins_of}
use Rattle.halves.specs.declared.state.Halves.{Halves}
use Rattle.halves.specs.declared.tried.Trials.{Trials}
use Rattle.joint.specs.Refuse.{numbered, same_pins}
use Rattle.halves.specs.Refuse.{pair_refusal}
use Rattle.halves.specs.Tried.{tried, tried_both}
use Rattle.pair.specs.Sample.{After, Gives, Samples, Steps, both, joined, number_of, pair_sampled, pair_stepped, turned_away}
use Rattle.pair.specs.SampleLaws.{Numbered, sample_is_step, sample_numbered, step_numbered, step_takes}
use Rattle.halves.specs.State.{passes_both}
use Rattle.halves.specs.Two.{Two, two}

-- what each part gives by itself, side by side
pub gives_both : {a b : single.After} {left right : fifo.Sampled} {m n : List ℕ} {r : Sampled} → r ≡ joined left right
    → single.Gives a left m → single.Gives b right n → Gives (both a b) r (two m n)
gives_both e f g = record { result = cc; words = cc }

gives_by : {a b : After} {r : Sampled} {memory : Two (List ℕ)} → a ≡ b → Gives b r memory → Gives a r memory
gives_by e g = record { result = g.result ∙ sym (cc e); words = g.words ∙ sym (cc e) }

numbered_by : {number : ℕ} {a : After} {h : Halves} {memory after : Two (List ℕ)} {r : Sampled} → Numbered number a h memory → Gives a r after
    → number_of r.outcome ≡ number
numbered_by n g = ap (λ (r : Sampled). number_of r.outcome) g.result ∙ n.told

module _ {x : Two ℕ} {h : Halves} {memory after : Two (List ℕ)} {r : Sampled} {b : After} where
  pub steps_by : {part : Part} → pair_stepped part x h memory ≡ b → Gives b r after → Steps part x h memory r after
  steps_by e g = let f = gives_by e g in record { refusal = numbered_by (step_numbered _ x h memory) f; gives = f }

  pub samples_by : {number : ℕ} → pair_sampled number x h memory ≡ b → Gives b r after → Samples number x h memory r after
  samples_by e g = let f = gives_by e g in record { refusal = numbered_by (sample_numbered h memory x _) f; gives = f }

pub gives_refusal : {number : ℕ} {h : Halves} {r : Sampled} {memory : Two (List ℕ)} → r ≡ (turned_away number h memory).sampled
    → Gives (turned_away number h memory) r memory
gives_refusal e = record { result = e; words = refl }

refusal_numbered : (part : Part) (x : ℕ) (s : State) → refusals.number_of (refusals.of_number (record_refusal part x s)) ≡ record_refusal part x s
unfolding record_refusal
refusal_numbered part x s = by_table.refusal_numbered part (pins_of x) s

module _ (part : Part) (x : Two ℕ) (h : Halves) (memory : Two (List ℕ)) {trials : Trials} (t : trials ≡ tried_both part x h memory) {number : ℕ}
    (n : number ≡ numbered (same_pins x.left x.right) (refusals.number_of trials.left.refusal) (refusals.number_of trials.right.refusal)) where
  judged : number ≡ pair_refusal part x h
  unfolding pair_refusal tried
  judged =
      n ∙ rw t
      (ap (λ (left : ℕ). numbered (same_pins x.left x.right) left (refusals.number_of (refusals.of_number (record_refusal part x.right h.right))))
      (refusal_numbered part x.left h.left)
      ∙ ap (λ (right : ℕ). numbered (same_pins x.left x.right) (record_refusal part x.left h.left) right) (refusal_numbered part x.right h.right))

  pub stepped_takes : number ≡ 0
      → pair_stepped part x h memory ≡ both (single.took trials.left.advanced memory.left) (single.took trials.right.advanced memory.right)
  unfolding single.taken tried
  stepped_takes z = rw t (step_takes part x h memory (sym judged ∙ z))

  pub stepped_refuses : (number ≡ 0 → ⊥) → pair_stepped part x h memory ≡ turned_away number h memory
  stepped_refuses some = rw judged ((step_numbered part x h memory).still (λ e. some (judged ∙ e)))

pub passed : {found asked : Bool} → found ≡ asked → found ≡ true → asked ≡ true
passed e n = sym e ∙ n

module _ (number : ℕ) (x : Two ℕ) (h : Halves) (memory : Two (List ℕ)) {looked : Option Part} (e : looked ≡ part_of number) where
  pub sample_unknown : looked ≡ None → pair_sampled number x h memory ≡ turned_away 1 h memory
  unfolding pair_sampled
  sample_unknown u = simp (← e, u)

  module _ (part : Part) (k : looked ≡ Some part) where
    module _ {sized : Bool} (d : sized ≡ single.is_depth part (length memory.left) && single.is_depth part (length memory.right)) where
      pub sample_length : sized ≡ false → pair_sampled number x h memory ≡ turned_away 2 h memory
      unfolding pair_sampled
      sample_length n = simp (← e, k, ← d, n)

      module _ (s : sized ≡ true) {tested : Bool} (f : tested ≡ passes_both part h) where
        pub sample_state : tested ≡ false → pair_sampled number x h memory ≡ turned_away 3 h memory
        unfolding pair_sampled
        sample_state n = simp (← e, k, ← d, s, ← f, n)

        pub sample_steps : tested ≡ true → pair_sampled number x h memory ≡ pair_stepped part x h memory
        sample_steps n = sample_is_step number x h memory part (sym e ∙ k) (passed d s) (passed f n)
