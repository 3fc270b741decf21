-- What is turned away: which number one sample gets, in the table's order, and that nothing else comes of it. Part numbers and depths stand
-- in plain figures, so that a definition that says another is refused here.
use Rattle.std.specs.Prelude.{ℕ, Bool, true, false, cond, List, ◌≢◌, ◌≡◌, eqb, length, Option, Some, None}
use Rattle.std.proofs.Math.Path.{refl}
use Rattle.std.proofs.Common.{sym, ◌∙◌}
use borrow.Author.Tests.{eqb-true, ne_eqb}
use Rattle.chip.specs.declared.advance.Advanced.{Advanced}
use Rattle.chip.specs.declared.state.State.{State}
use Rattle.chip.specs.Advance.{advanced}
use Rattle.chip.specs.State.{passes}
use Rattle.counts.specs.declared.part.Part.{Part}
use Rattle.counts.specs.declared.part.Part.TheVariants.{Idt72V255LA, Idt72V265LA}
use Rattle.counts.specs.Part.{by_part, depth_of, part_of}
use Rattle.pins.specs.Record.{pins_of}
use Rattle.refusals.specs.Refuse.{refusal_of}
use Rattle.fifo.specs.Outcome.{Refused}
use Rattle.fifo.specs.Sample.{After, answers_after, fetched_for, is_depth, is_taken, number_of, record_refusal, sampled, sample_refusal, stepped, taken, took, turned_away}

-- Parts and paper authority: each part's number, and its depth
abbrev pub asked_by : Part → ℕ
asked_by Idt72V255LA = 255
asked_by Idt72V265LA = 265

abbrev pub words_in : Part → ℕ
words_in Idt72V255LA = 8192
words_in Idt72V265LA = 16384

pub known : (part : Part) → part_of (asked_by part) ≡ Some part
known Idt72V255LA = refl
known Idt72V265LA = refl

pub same_depth : (part : Part) → words_in part ≡ depth_of part
same_depth Idt72V255LA = refl
same_depth Idt72V265LA = refl

pub not_deep : (part : Part) (words : ℕ) → words ≢ words_in part → is_depth part words ≡ false
not_deep part words n = ne_eqb words (depth_of part) (λ e. n (e ∙ sym (same_depth part)))

pub deep : (part : Part) (words : ℕ) → words ≡ words_in part → is_depth part words ≡ true
deep Idt72V255LA words whole = rw whole refl
deep Idt72V265LA words whole = rw whole refl

-- in any state, whether or not it passes 3, as a run may reach it
pub by_pins : (part : Part) (x : ℕ) (s : State) → record_refusal part x s ≡ refusal_of part (pins_of x) s
unfolding record_refusal
by_pins part x s = refl

module _ (x : ℕ) (s : State) (words : ℕ) where
  pub one_comes : (number : ℕ) → number ≢ 255 → number ≢ 265 → sample_refusal number x s words ≡ 1
  unfolding sample_refusal
  one_comes number n m = simp (ne_eqb number 255 n, ne_eqb number 265 m)

  module _ (part : Part) where
    pub two_comes : words ≢ words_in part → sample_refusal (asked_by part) x s words ≡ 2
    unfolding sample_refusal
    two_comes n = simp (known part, ne_eqb words (depth_of part) (λ e. n (e ∙ sym (same_depth part))))

    module _ (whole : words ≡ words_in part) where
      pub three_comes : passes part s ≡ false → sample_refusal (asked_by part) x s words ≡ 3
      unfolding sample_refusal
      three_comes fails = simp (known part, deep part words whole, fails)

      module _ (passed : passes part s ≡ true) where
        -- 5 to 10 and 12, or 0 where the sample is taken; a record that is a number is never 4
        pub rest_by_pins : sample_refusal (asked_by part) x s words ≡ refusal_of part (pins_of x) s
        unfolding sample_refusal
        rest_by_pins = simp (known part, deep part words whole, passed, by_pins part x s)

-- what comes of a number: it is the outcome's, the sample is taken with 0 alone, and with another nothing moved
pub record Numbered (number : ℕ) (a : After) (s : State) (memory : List ℕ) : Type 0 where
  pub told : number_of a.sampled.outcome ≡ number
  pub takes : is_taken a.sampled.outcome ≡ eqb number 0
  pub still : number ≢ 0 → a ≡ turned_away number s memory

module _ (s : State) (memory : List ℕ) where
  turned : (number : ℕ) → eqb number 0 ≡ false → Numbered number (turned_away number s memory) s memory
  turned number e = record { told = refl; takes = sym e; still = λ n. refl }

  by_refusal : (free : Bool) (number : ℕ) (a : Advanced) → eqb number 0 ≡ free → Numbered number (cond free (took a memory) (turned_away number s memory)) s memory
  by_refusal true number a e = let none = eqb-true number 0 e in record { told = sym none; takes = sym e; still = λ n. absurd (n none) }
  by_refusal false number a e = turned number e

  by_tests : (sized passed : Bool) {number : ℕ} {a : After} → Numbered number a s memory
      → Numbered (cond sized (cond passed number 3) 2) (cond sized (cond passed a (turned_away 3 s memory)) (turned_away 2 s memory)) s memory
  by_tests true true n = n
  by_tests true false n = turned 3 refl
  by_tests false passed n = turned 2 refl

  module _ (x : ℕ) where
    pub step_numbered : (part : Part) → Numbered (record_refusal part x s) (stepped part x s memory) s memory
    unfolding stepped taken
    step_numbered part = by_refusal (eqb (record_refusal part x s) 0) (record_refusal part x s) (advanced part (pins_of x) (fetched_for part s memory) s) refl

    by_part_lem : ((part : Part) → Numbered (record_refusal part x s) (stepped part x s memory) s memory) → (looked : Option Part)
        → Numbered (by_part looked (λ part. cond (is_depth part (length memory)) (cond (passes part s) (record_refusal part x s) 3) 2) 1)
        (by_part looked
        (λ part. cond (is_depth part (length memory)) (cond (passes part s) (stepped part x s memory) (turned_away 3 s memory)) (turned_away 2 s memory))
        (turned_away 1 s memory)) s memory
    by_part_lem steps (Some part) = by_tests (is_depth part (length memory)) (passes part s) (steps part)
    by_part_lem steps None = turned 1 refl

    pub sample_numbered : (number : ℕ) → Numbered (sample_refusal number x s (length memory)) (sampled number x s memory) s memory
    unfolding sampled sample_refusal stepped taken
    sample_numbered number =
        by_part_lem
        (λ part. by_refusal (eqb (record_refusal part x s) 0) (record_refusal part x s) (advanced part (pins_of x) (fetched_for part s memory) s) refl)
        (part_of number)

-- a refused sample writes no answer
pub none_written : (number index : ℕ) (room : List ℕ) → answers_after (Refused number) index room ≡ room
none_written number index room = refl
