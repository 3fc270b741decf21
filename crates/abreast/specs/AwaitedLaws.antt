-- The composite flags in the last answers show room, or a word ready, only where both parts do.
use Rattle.std.specs.Prelude.{ℕ, Bool, true, false, ◌&&◌, ◌||◌, List, ◌↔◌, ◌≡◌, refl}
use Rattle.std.proofs.Math.Bool.{and-eq-true_iff}
use Rattle.std.proofs.Common.{true≢false, sym, subst, ◌∙◌}
use Rattle.chip.specs.Reset.{selected_mode}
use Rattle.counts.specs.declared.part.Part.{Part}
use Rattle.fifo.specs.Outcome.{Taken}
use Rattle.joint.specs.Composite.{composite_of, level}
use Rattle.halves.specs.Two.{Two}
use Rattle.pins.specs.Record.{bit}
use Rattle.history.specs.AnswerLaws.{room_answered, word_answered}
use Rattle.history.specs.Asked.{ShowsRoom, ShowsWord}
use Rattle.history.specs.Onlooker.{tells_full, tells_ready}
use Rattle.history.specs.Told.{Told}
use Rattle.history.specs.Trace.{Moment, next, outcome, power_up}
use Rattle.views.specs.TrueCounts.{TrueCounts}
use Rattle.abreast.specs.Abreast.{Records}
use Rattle.abreast.specs.Pairing.{Pairing, composite, pair_next, pair_takes, powered_both}
use Rattle.abreast.specs.PairingLaws.{Paired, refused_neither, taken_each, taken_told}

-- what a part's last answer shows is so of it
pub record Shows (part : Part) (m : Moment) (answer : ℕ) : Type 0 where
  pub room : tells_full m.notes.fwft (bit 23 answer) ≡ false → ShowsRoom part m
  pub word : tells_ready m.notes.fwft (bit 22 answer) ≡ true → ShowsWord part m

pub record ShowBoth (part : Part) (b : Pairing) : Type 0 where
  pub left : Shows part b.left b.answers.left
  pub right : Shows part b.right b.answers.right

pub show_powered : (part : Part) (memory : Two (List ℕ)) → ShowBoth part (powered_both memory)
unfolding powered_both power_up
show_powered part memory = record {
  left = record { room = λ e. absurd (true≢false e); word = λ e. absurd (true≢false (sym e)) };
  right = record { room = λ e. absurd (true≢false e); word = λ e. absurd (true≢false (sym e)) };
}

-- what a part's answer to a sample that is taken shows is so of it after the sample, and the other way round
pub record Tells (part : Part) (m : Moment) (answer : ℕ) : Type 0 where
  pub room : (tells_full m.notes.fwft (bit 23 answer) ≡ false) ↔ ShowsRoom part m
  pub word : (tells_ready m.notes.fwft (bit 22 answer) ≡ true) ↔ ShowsWord part m

tells : (part : Part) (m : Moment) (t : TrueCounts) → Told part m t → (x : ℕ) {answer : ℕ} → (outcome part m x).sampled.outcome ≡ Taken answer
    → Tells part (next part m x) answer
tells part m t g x {answer} e = record { room = room_answered part m t g x answer e; word = word_answered part m t g x answer e }

module _ (part : Part) (b : Pairing) (g : Paired part b) (x : Records) where
  abbrev there : Pairing
  there = pair_next part b x

  pub tell_both : pair_takes part b x ≡ true → Tells part there.left there.answers.left × Tells part there.right there.answers.right
  tell_both e =
      let each = taken_each part b g x (taken_told part b g x e) in
      rw (each.answered, each.left_next, each.right_next)
      (tells part b.left g.left_counts g.left x.left each.left_outcome, tells part b.right g.right_counts g.right x.right each.right_outcome)

  module _ (shown : ShowBoth part b) where
    show_by : (verdict : Bool) → pair_takes part b x ≡ verdict → ShowBoth part there
    show_by true e =
        let told = tell_both e in
        record {
          left = record { room = told.0.room.0; word = told.0.word.0 };
          right = record { room = told.1.room.0; word = told.1.word.0 };
        }
    show_by false e = subst (ShowBoth part) (sym (refused_neither part b g x e)) shown

    pub show_next : ShowBoth part there
    show_next = show_by (pair_takes part b x) refl

-- the composite shows full where either part does, and a word ready where both do
pub full_either : (fwft left right : Bool) → tells_full fwft (level (selected_mode fwft) left right) ≡ tells_full fwft left || tells_full fwft right
full_either true left right = refl
full_either false true right = refl
full_either false false right = refl

pub word_both : (fwft left right : Bool) → tells_ready fwft (level (selected_mode fwft) left right) ≡ tells_ready fwft left && tells_ready fwft right
word_both true true right = refl
word_both true false right = refl
word_both false left right = refl

neither : (left right : Bool) → left || right ≡ false → (left ≡ false) × (right ≡ false)
neither true right e = absurd (true≢false e)
neither false right e = (refl, e)

module _ (part : Part) (b : Pairing) (g : Paired part b) (shown : ShowBoth part b) where
  abbrev fwft : Bool
  fwft = b.left.notes.fwft

  -- the composite flags spelled out: `room_shown` and `word_shown` stand by themselves
  pub room_both : tells_full fwft (level (selected_mode fwft) (bit 23 b.answers.left) (bit 23 b.answers.right)) ≡ false
      → ShowsRoom part b.left × ShowsRoom part b.right
  room_both e =
      let each = neither _ _ (sym (full_either fwft (bit 23 b.answers.left) (bit 23 b.answers.right)) ∙ e) in
      (shown.left.room each.0, shown.right.room (rw (← g.mode) each.1))

  pub ready_both : tells_ready fwft (level (selected_mode fwft) (bit 22 b.answers.left) (bit 22 b.answers.right)) ≡ true
      → ShowsWord part b.left × ShowsWord part b.right
  ready_both e =
      let each = (and-eq-true_iff _ _).0 (sym (word_both fwft (bit 22 b.answers.left) (bit 22 b.answers.right)) ∙ e) in
      (shown.left.word each.0, shown.right.word (rw (← g.mode) each.1))

  pub room_shown : tells_full fwft (composite b).ff ≡ false → ShowsRoom part b.left × ShowsRoom part b.right
  unfolding composite_of
  room_shown e = room_both e

  pub word_shown : tells_ready fwft (composite b).ef ≡ true → ShowsWord part b.left × ShowsWord part b.right
  unfolding composite_of
  word_shown e = ready_both e
