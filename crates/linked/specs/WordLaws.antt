-- Order 4: no word is lost, doubled or out of order between the parts of a chain.
use Prim.Native.Nat.{ℕ, zero, suc, ◌<◌}
use mathlib.Core.List.{List, [], ◌++◌, append_assoc}
use Rattle.std.proofs.Math.Logic.{⊎_elim}
use Rattle.std.specs.Prelude.{◌≡◌, refl}
use Rattle.std.proofs.Math.Path.{sym, ap}
use Rattle.std.proofs.Common.{◌∙◌, arith}
use Rattle.chip.specs.Answer.{lines_of}
use Rattle.chip.specs.Reset.{cleared, powered_up}
use Rattle.counts.specs.declared.part.Part.{Part}
use Rattle.sides.specs.Read.{ready, sees_word}
use Rattle.history.specs.Onlooker.{Notes, blank}
use Rattle.history.specs.Trace.{at, shown_by, words_from}
use Rattle.linked.specs.Chaining.{Chain, inside_from, moment_of}
use Rattle.linked.specs.Linked.{Linked, Running, Unused}
use Rattle.linked.specs.OnePartLaws.{words}
use Rattle.linked.specs.OwnWords.{own_words}
use Rattle.linked.specs.Taken.{inside}

-- at power-up nothing is inside a part
none_inside : (part : Part) (memory : List ℕ) → inside part (at powered_up memory blank) ≡ []
unfolding inside powered_up cleared shown_by lines_of ready sees_word words_from
none_inside part memory = refl

-- the words inside the parts up to one stand before those inside the earlier ones
abbrev pub Behind : Part → Type 0
Behind part =
    (c : Chain) (k : ℕ) → inside_from part c (suc k) ≡ inside part (moment_of part c (suc k)) ++ inside_from part c k

module _ (part : Part) (n : ℕ) (c : Chain) (h : Linked part n c) where
  -- of each part: the words accepted are those taken, and then what is inside it
  part_words : (i : ℕ) → i < n → (c.notes i).accepted ≡ c.taken i ++ inside part (moment_of part c i)
  unfolding moment_of
  part_words i l =
      ⊎_elim
      (λ (unused : Unused n c).
      (let same = unused i l in
      ap (λ (b : Notes). b.accepted) same.1 ∙ sym (none_inside part (own_words part c.memory i))
      ∙ (λ j. sym same.2 j ++ inside part (at (sym same.0 j) (own_words part c.memory i) (sym same.1 j)))))
      (λ (run : Running part n c). words part (moment_of part c i) (h.chained.counts i) (h.chained.told i l) (c.taken i) (run i l).1)
      h.stage

  pub words_by : Behind part → (k : ℕ) → k < n → (c.notes 0).accepted ≡ c.taken k ++ inside_from part c k
  unfolding inside_from
  words_by behind zero l = part_words 0 l
  words_by behind (suc k) l =
      words_by behind k (omega arith)
      ∙ ap (λ (taken : List ℕ). taken ++ inside_from part c k) (h.handed k l ∙ part_words (suc k) l)
      ∙ append_assoc (c.taken (suc k)) (inside part (moment_of part c (suc k))) (inside_from part c k)
      ∙ ap (λ (within : List ℕ). c.taken (suc k) ++ within) (sym (behind c k))

  -- of the parts from the first to part k: the words accepted by the first are those taken from part k, and then what is inside them
  pub all_words : (k : ℕ) → k < n → (c.notes 0).accepted ≡ c.taken k ++ inside_from part c k
  unfolding inside_from
  all_words k l = words_by (λ c k. refl) k l
