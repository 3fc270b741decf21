-- Two parts side by side: which number one sample gets, in the order 1, 2, 3, 11, the left part's own, the right part's own. Part numbers
-- and depths stand in plain figures, so that a definition that says another is refused here.
use Rattle.std.specs.Prelude.{ℕ, ◌/◌, ◌^◌, Bool, true, false, cond, ◌≢◌, ◌≡◌}
use Rattle.std.proofs.Math.Bool.{and-false}
use Rattle.std.proofs.Common.{◌∙◌}
use borrow.Author.Tests.{ne_eqb}
use Rattle.chip.specs.State.{passes}
use Rattle.counts.specs.declared.part.Part.{Part}
use Rattle.fifo.specs.NumberLaws.{asked_by, deep, known, not_deep, words_in}
use Rattle.pins.specs.Record.{pins_of}
use Rattle.refusals.specs.Refuse.{refusal_of}
use Rattle.sides.specs.declared.read.Mode.TheVariants.{Standard, Fwft}
use Rattle.halves.specs.declared.state.Halves.{Halves}
use Rattle.joint.specs.Refuse.{first_of}
use Rattle.halves.specs.Refuse.{pair_refusal}
use Rattle.halves.specs.RefuseLaws as refuse
use Rattle.pair.specs.Sample.{pair_sample_refusal}
use Rattle.halves.specs.State.{passes_both}
use Rattle.halves.specs.Two.{Two}

module _ (x : Two ℕ) (h : Halves) (words : Two ℕ) where
  pub one_comes : (number : ℕ) → number ≢ 255 → number ≢ 265 → pair_sample_refusal number x h words ≡ 1
  unfolding pair_sample_refusal
  one_comes number n m = simp (ne_eqb number 255 n, ne_eqb number 265 m)

  module _ (part : Part) where
    pub two_by_left : words.left ≢ words_in part → pair_sample_refusal (asked_by part) x h words ≡ 2
    unfolding pair_sample_refusal
    two_by_left n = simp (known part, not_deep part words.left n)

    pub two_by_right : words.right ≢ words_in part → pair_sample_refusal (asked_by part) x h words ≡ 2
    unfolding pair_sample_refusal
    two_by_right n = simp (known part, not_deep part words.right n, and-false)

    module _ (left-whole : words.left ≡ words_in part) (right-whole : words.right ≡ words_in part) where
      tested : pair_sample_refusal (asked_by part) x h words ≡ cond (passes_both part h) (pair_refusal part x h) 3
      unfolding pair_sample_refusal
      tested = simp (known part, deep part words.left left-whole, deep part words.right right-whole)

      pub three_by_left : passes part h.left ≡ false → pair_sample_refusal (asked_by part) x h words ≡ 3
      unfolding passes_both
      three_by_left fails = tested ∙ simp fails

      pub three_by_right : passes part h.right ≡ false → pair_sample_refusal (asked_by part) x h words ≡ 3
      unfolding passes_both
      three_by_right fails = tested ∙ simp (fails, and-false)

      -- before a Master Reset too
      pub three_by_left_fwft : (untaken : Bool) → h.left.read.mode ≡ Fwft untaken → h.right.read.mode ≡ Standard
          → pair_sample_refusal (asked_by part) x h words ≡ 3
      unfolding passes_both
      three_by_left_fwft untaken l r = tested ∙ simp (l, r, and-false)

      pub three_by_right_fwft : (untaken : Bool) → h.left.read.mode ≡ Standard → h.right.read.mode ≡ Fwft untaken
          → pair_sample_refusal (asked_by part) x h words ≡ 3
      unfolding passes_both
      three_by_right_fwft untaken l r = tested ∙ simp (l, r, and-false)

      module _ (passed : passes_both part h ≡ true) where
        by_records : pair_sample_refusal (asked_by part) x h words ≡ pair_refusal part x h
        by_records = tested ∙ simp passed

        pub eleven_comes : x.left / 2 ^ 21 ≢ x.right / 2 ^ 21 → pair_sample_refusal (asked_by part) x h words ≡ 11
        eleven_comes n = by_records ∙ refuse.eleven_comes part x h n

        module _ (same : x.left / 2 ^ 21 ≡ x.right / 2 ^ 21) where
          by_parts : pair_sample_refusal (asked_by part) x h words ≡ first_of (refusal_of part (pins_of x.left) h.left) (refusal_of part (pins_of x.right) h.right)
          by_parts = by_records ∙ refuse.then_by_parts part x h same

          -- 5 to 10 and 12 by the left part
          pub left_comes : refusal_of part (pins_of x.left) h.left ≢ 0
              → pair_sample_refusal (asked_by part) x h words ≡ refusal_of part (pins_of x.left) h.left
          left_comes n = by_parts ∙ simp (ne_eqb (refusal_of part (pins_of x.left) h.left) 0 n)

          -- 5 to 10 and 12 by the right part, or 0 where the sample is taken
          pub right_comes : refusal_of part (pins_of x.left) h.left ≡ 0
              → pair_sample_refusal (asked_by part) x h words ≡ refusal_of part (pins_of x.right) h.right
          right_comes free = by_parts ∙ simp free

          pub taken : refusal_of part (pins_of x.left) h.left ≡ 0 → refusal_of part (pins_of x.right) h.right ≡ 0
              → pair_sample_refusal (asked_by part) x h words ≡ 0
          taken left right = right_comes left ∙ right
