-- Two parts side by side as the pair works them, sample by sample through its own definition of one sample, with an onlooker beside each
-- part and the answers to the last sample taken.
use Rattle.std.specs.Prelude.{ℕ, Bool, true, false, cond, List, [], ◌∷◌, map, ◌≡◌}
use Rattle.chip.specs.Reset.{selected_mode}
use Rattle.counts.specs.declared.part.Part.{Part}
use Rattle.counts.specs.Part.{number_of}
use Rattle.joint.specs.declared.composite.Composite.{Composite}
use Rattle.pair.specs.Outcome.{Outcome, Refused, Taken}
use Rattle.halves.specs.declared.state.Halves.{Halves}
use Rattle.joint.specs.Composite.{composite_of}
use Rattle.pair.specs.Sample.{After, is_taken, pair_sampled}
use Rattle.halves.specs.Two.{Two, two}
use Rattle.pins.specs.Record.{pins_of}
use Rattle.history.specs.Asked.{taken_next}
use Rattle.history.specs.Onlooker.{asks_read, asks_write, noted, tells_full, tells_ready}
use Rattle.history.specs.Trace.{Moment, at, power_up, shown_by}
use Rattle.abreast.specs.Abreast.{Abreast, Records}

-- each part's state, memory and notes, and both answers to the last sample taken
pub record Pairing : Type 0 where
  pub left : Moment
  pub right : Moment
  pub answers : Two ℕ

-- before a sample is taken there is no answer: 0 shows neither room nor a word in Standard, the mode that an onlooker notes at power-up
unfoldable pub powered_both : Two (List ℕ) → Pairing
powered_both memory = record { left = power_up memory.left; right = power_up memory.right; answers = two 0 0 }

abbrev pub halves_of : Pairing → Halves
halves_of b = record { left = b.left.state; right = b.right.state }

abbrev pub memories_of : Pairing → Two (List ℕ)
memories_of b = two b.left.memory b.right.memory

abbrev pub answers_after : Outcome → Two ℕ → Two ℕ
answers_after (Taken left right) before = two left right
answers_after (Refused number) before = before

module _ (part : Part) where
  -- one sample, as `sample` works it
  unfoldable pub pair_outcome : Pairing → Records → After
  pair_outcome b x = pair_sampled (number_of part) x (halves_of b) (memories_of b)

  unfoldable pub pair_takes : Pairing → Records → Bool
  pair_takes b x = is_taken (pair_outcome b x).sampled.outcome

  -- where a sample leads; a refused one is none to the onlookers
  abbrev pub moved_both : Pairing → Records → After → Pairing
  moved_both b x a = record {
    left = at a.sampled.state.left a.memory.left
        (cond (is_taken a.sampled.outcome)
        (noted b.left.notes (pins_of x.left) (shown_by part b.left.state) (shown_by part a.sampled.state.left)) b.left.notes);
    right = at a.sampled.state.right a.memory.right
        (cond (is_taken a.sampled.outcome)
        (noted b.right.notes (pins_of x.right) (shown_by part b.right.state) (shown_by part a.sampled.state.right)) b.right.notes);
    answers = answers_after a.sampled.outcome b.answers;
  }

  unfoldable pub pair_next : Pairing → Records → Pairing
  pair_next b x = moved_both b x (pair_outcome b x)

  -- what a list of samples leads to
  unfoldable pub pair_led : Pairing → List Records → Pairing
  pair_led b [] = b
  pair_led b (x ∷ xs) = pair_led (pair_next b x) xs

  -- the samples of a list that are taken
  unfoldable pub taken_of : Pairing → List Records → List Records
  taken_of b [] = []
  taken_of b (x ∷ xs) = cond (pair_takes b x) (x ∷ taken_of (pair_next b x) xs) (taken_of (pair_next b x) xs)

abbrev pub lefts : List Records → List ℕ
lefts = map (λ (x : Records). x.left)

abbrev pub rights : List Records → List ℕ
rights = map (λ (x : Records). x.right)

-- the composite flags in the answers to the last sample taken
abbrev pub composite : Pairing → Composite
composite b = composite_of (selected_mode b.left.notes.fwft) b.answers.left b.answers.right

module _ (part : Part) (b : Pairing) (x : Records) where
  -- where the sample is taken, a write is asked only while the composite shows room,
  abbrev pub RoomAwaited : Type 0
  RoomAwaited =
      pair_takes part b x ≡ true → asks_write b.left.notes (pins_of x.left) ≡ true → tells_full b.left.notes.fwft (composite b).ff ≡ false

  -- and a read only while it shows a word ready
  abbrev pub WordAwaited : Type 0
  WordAwaited =
      pair_takes part b x ≡ true → asks_read b.left.notes (pins_of x.left) ≡ true → tells_ready b.left.notes.fwft (composite b).ef ≡ true

  -- from so many words taken since the last reset from each part, how many they are after the sample
  abbrev pub taken_both : Two ℕ → Two ℕ
  taken_both many =
      cond (pair_takes part b x) (two (taken_next part b.left x.left many.left) (taken_next part b.right x.right many.right)) many

module _ (part : Part) where
  -- something is so of each sample of a trace and the pairing before it
  abbrev pub EachOf : (Pairing → Records → Type 0) → Pairing → List Records → Type 0
  EachOf Is b [] = Unit {0}
  EachOf Is b (x ∷ xs) = Is b x × EachOf Is (pair_next part b x) xs

  -- at the start and after each sample both parts have accepted equally many words and as many were taken from each
  abbrev pub NeverApart : Pairing → Two ℕ → List Records → Type 0
  NeverApart b many [] = Abreast b.left.notes many.left b.right.notes many.right
  NeverApart b many (x ∷ xs) =
      Abreast b.left.notes many.left b.right.notes many.right × NeverApart (pair_next part b x) (taken_both part b x many) xs
