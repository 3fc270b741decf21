-- Order 1, never apart: from power-up, for either part number, any words in the two memories and any samples, a user who asks for a write only while
-- the composite flag in the last answers shows room, and for a read only while it shows a word ready, never has the halves apart. After each sample
-- both have accepted equally many words and as many were taken from each since the last reset.
--
-- Asked, accepted and taken are an onlooker's words: Onlooker.antt and Asked.antt of history. A refused sample asks for nothing.
use Rattle.std.specs.Prelude.{ℕ, Bool, true, false, cond, List, [], ◌∷◌, ◌≡◌, length}
use Rattle.std.proofs.Math.Path.{refl}
use Rattle.std.proofs.Common.{sym, subst}
use Rattle.counts.specs.declared.part.Part.{Part}
use Rattle.counts.specs.Part.{depth_of}
use Rattle.chip.specs.Reset.{selected_mode}
use Rattle.joint.specs.Composite.{composite_of, level}
use Rattle.halves.specs.Two.{Two, two}
use Rattle.pins.specs.Record.{bit, pins_of}
use Rattle.history.specs.Asked.{taken_next}
use Rattle.history.specs.Onlooker.{asks_read, asks_write, tells_full, tells_ready}
use Rattle.history.specs.Trace.{power_up}
use Rattle.abreast.specs.Abreast.{Abreast, Records}
use Rattle.abreast.specs.AbreastLaws.{abreast_next}
use Rattle.abreast.specs.AwaitedLaws.{ShowBoth, ready_both, room_both, show_next, show_powered}
use Rattle.abreast.specs.Pairing.{EachOf, NeverApart, Pairing, RoomAwaited, WordAwaited, pair_next, pair_takes, powered_both, taken_both}
use Rattle.abreast.specs.PairingLaws.{Paired, paired_by, paired_next, refused_neither, taken_each, taken_single, taken_told}

module _ (part : Part) where
  abbrev Level : Pairing → Two ℕ → Type 0
  Level b many = Abreast b.left.notes many.left b.right.notes many.right

  -- what the user awaits, with the composite flags spelled out: `never_apart` stands by itself
  abbrev RoomOfBoth : Pairing → Records → Type 0
  RoomOfBoth b x =
      pair_takes part b x ≡ true → asks_write b.left.notes (pins_of x.left) ≡ true
      → tells_full b.left.notes.fwft (level (selected_mode b.left.notes.fwft) (bit 23 b.answers.left) (bit 23 b.answers.right)) ≡ false

  abbrev WordOfBoth : Pairing → Records → Type 0
  WordOfBoth b x =
      pair_takes part b x ≡ true → asks_read b.left.notes (pins_of x.left) ≡ true
      → tells_ready b.left.notes.fwft (level (selected_mode b.left.notes.fwft) (bit 22 b.answers.left) (bit 22 b.answers.right)) ≡ true

  module _ (b : Pairing) (g : Paired part b) (shown : ShowBoth part b) (many : Two ℕ) (even : Level b many) (x : Records) (room : RoomOfBoth b x)
      (word : WordOfBoth b x) where
    level_by : (verdict : Bool) → pair_takes part b x ≡ verdict
        → Level (pair_next part b x) (cond verdict (two (taken_next part b.left x.left many.left) (taken_next part b.right x.right many.right)) many)
    level_by true e =
        let each = taken_each part b g x (taken_told part b g x e) in
        let left = taken_single part b.left x.left each.left_outcome in
        let right = taken_single part b.right x.right each.right_outcome in
        rw (each.left_next, each.right_next)
        (abreast_next part b.left b.right many.left many.right even x
        (left, right, each.same) (λ asked. room_both part b g shown (room e asked)) (λ asked. ready_both part b g shown (word e asked)))
    level_by false e = subst (λ (c : Pairing). Level c many) (sym (refused_neither part b g x e)) even

    level_next : Level (pair_next part b x) (taken_both part b x many)
    level_next = level_by (pair_takes part b x) refl

  stay_level : (xs : List Records) (b : Pairing) (many : Two ℕ) → Paired part b → ShowBoth part b → Level b many → EachOf part RoomOfBoth b xs
      → EachOf part WordOfBoth b xs → NeverApart part b many xs
  stay_level [] b many g shown even room word = even
  stay_level (x ∷ xs) b many g shown even room word = (
    even,
    stay_level xs (pair_next part b x) (taken_both part b x many) (paired_next part b g x) (show_next part b g x shown)
        (level_next b g shown many even x room.0 word.0) room.1 word.1,
  )

  pub never_apart : (memory : Two (List ℕ)) → length memory.left ≡ depth_of part → length memory.right ≡ depth_of part → (samples : List Records)
      → EachOf part (RoomAwaited part) (powered_both memory) samples → EachOf part (WordAwaited part) (powered_both memory) samples
      → NeverApart part (powered_both memory) (two 0 0) samples
  unfolding powered_both power_up composite_of
  never_apart memory left right samples room word =
      stay_level samples (powered_both memory) (two 0 0) (paired_by part (λ b x a. refl) memory left right) (show_powered part memory)
      (record { accepted = refl; taken = refl; wclk = refl; rclk = refl; fwft = refl }) room word
