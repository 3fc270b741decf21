-- What is seen of a trace on two parts, as tests, which compute.
use Rattle.std.specs.Prelude.{ℕ, Bool, true, false, not, ◌&&◌, ◌||◌, List, [], ◌∷◌, ◌≡◌, refl, length}
use Rattle.std.proofs.Math.Bool.{and-eq-true_iff}
use Rattle.std.proofs.Common.{true≢false, sym}
use Rattle.counts.specs.declared.part.Part.{Part}
use Rattle.counts.specs.declared.part.Part.TheVariants.{Idt72V255LA as part255}
use Rattle.joint.specs.Refuse.{same_pins}
use Rattle.pins.specs.Record.{pins_of}
use Rattle.history.specs.Asked.{taken_next}
use Rattle.history.specs.Onlooker.{asks_read, asks_write, full, ready}
use Rattle.history.specs.Tight.{zeros}
use Rattle.history.specs.Trace.{Moment, next, power_up, shown_by, takes}
use Rattle.abreast.specs.Abreast.{Records, RoomHeeded, TakenSame, WordHeeded}

-- whether each sample is taken by both with the same pins, each write asked while both show room and each read while both show a word
-- ready; whether at least the left part does; and the words accepted by each and taken from each in the end
pub record Seen : Type 0 where
  pub together : Bool
  pub room : Bool
  pub word : Bool
  pub left_room : Bool
  pub left_word : Bool
  pub accepted : ℕ × ℕ
  pub taken : ℕ × ℕ

abbrev pub only : Bool → Bool → Bool
only asked shown = not asked || shown

only_by : (asked one two : Bool) → only asked (one && two) ≡ true → asked ≡ true → (one ≡ true) × (two ≡ true)
only_by true one two e is = (and-eq-true_iff one two).0 e
only_by false one two e is = absurd (true≢false (sym is))

is_not : (a : Bool) → not a ≡ true → a ≡ false
is_not true e = absurd (true≢false (sym e))
is_not false e = refl

module _ (part : Part) where
  abbrev pub shows_room : Moment → Bool
  shows_room m = not (full m.notes.fwft (shown_by part m.state))

  abbrev pub shows_word : Moment → Bool
  shows_word m = ready m.notes.fwft (shown_by part m.state)

  abbrev pub asks_to_write : Moment → Records → Bool
  asks_to_write left s = asks_write left.notes (pins_of s.left)

  abbrev pub asks_to_read : Moment → Records → Bool
  asks_to_read left s = asks_read left.notes (pins_of s.left)

  abbrev pub taken_same : Moment → Moment → Records → Bool
  taken_same left right s = takes part left s.left && takes part right s.right && same_pins s.left s.right

  -- with so many words taken before
  unfoldable pub seen_from : Moment → ℕ → Moment → ℕ → List Records → Seen
  seen_from left n right k [] = record {
    together = true;
    room = true;
    word = true;
    left_room = true;
    left_word = true;
    accepted = (length left.notes.accepted, length right.notes.accepted);
    taken = (n, k);
  }
  seen_from left n right k (s ∷ samples) =
      let later = seen_from (next part left s.left) (taken_next part left s.left n) (next part right s.right) (taken_next part right s.right k) samples in
      record {
        together = taken_same left right s && later.together;
        room = only (asks_to_write left s) (shows_room left && shows_room right) && later.room;
        word = only (asks_to_read left s) (shows_word left && shows_word right) && later.word;
        left_room = only (asks_to_write left s) (shows_room left) && later.left_room;
        left_word = only (asks_to_read left s) (shows_word left) && later.left_word;
        accepted = later.accepted;
        taken = later.taken;
      }

  -- what the tests tell
  module _ (left right : Moment) (s : Records) where
    pub taken_told : taken_same left right s ≡ true → TakenSame part left right s
    taken_told e =
        let both = (and-eq-true_iff (takes part left s.left && takes part right s.right) (same_pins s.left s.right)).0 e in
        let taken = (and-eq-true_iff (takes part left s.left) (takes part right s.right)).0 both.0 in
        (taken.0, taken.1, both.1)

    pub room_told : only (asks_to_write left s) (shows_room left && shows_room right) ≡ true → RoomHeeded part left right s
    room_told e asked =
        let both = only_by (asks_to_write left s) (shows_room left) (shows_room right) e asked in
        (is_not _ both.0, is_not _ both.1)

    pub word_told : only (asks_to_read left s) (shows_word left && shows_word right) ≡ true → WordHeeded part left right s
    word_told e asked = only_by (asks_to_read left s) (shows_word left) (shows_word right) e asked

-- on two parts 255, from power-up with memories of zeros
abbrev pub seen : List Records → Seen
seen samples = seen_from part255 (power_up zeros) 0 (power_up zeros) 0 samples
