-- A part of a row and its words, in the words of the code.
use Prim.Native.Nat.{ℕ, ◌+◌, ◌-◌}
use mathlib.Core.Bool.{true}
use mathlib.Core.List.{List, [], ◌++◌, append-nil}
use mathlib.Core.Path.{◌≡◌, refl, sym, ap, ◌∙◌}
use borrow.Rule.Slice.PartMut.{mid_of, post_of, put_mid}
use lib.ListN.{drop, drop_of_length-le, length, length-drop, take, take-append-drop}
use native.Mathlib.Omega.{arith}
use Rattle.chip.specs.declared.state.State.{State}
use Rattle.chip.specs.Quiet.{held, quiet}
use Rattle.chip.specs.QuietLaws.{quiet_advanced}
use Rattle.counts.specs.declared.part.Part.{Part}
use Rattle.fifo.specs.Outcome.{Sampled}
use Rattle.fifo.specs.Sample.{Gives, fetched_for, taken}
use Rattle.pins.specs.declared.record.Pins.{Pins}
use Rattle.rows.specs.Step.{Moves, moved_part}

module _ (part : Part) (p : Pins) (s : State) (base : ℕ) (memory : List ℕ) where
  -- where nothing rises the words stay
  pub quiet_moved : quiet p s ≡ true → {r : State} → r ≡ held p s → Moves (moved_part part p s base memory) r memory
  unfolding moved_part taken
  quiet_moved q e =
      let still = quiet_advanced part p (fetched_for part s (drop base memory)) s q in
      record { result = rw (e, still) refl; words = rw still (sym (take-append-drop base memory)) }

  abbrev rest : ℕ
  rest = length memory - base

  none_after : post_of base rest memory ≡ []
  none_after = drop_of_length-le (drop base memory) {i = rest} (omega (arith, length-drop base memory))

  all_lent : mid_of base rest memory ≡ drop base memory
  all_lent = sym (append-nil (mid_of base rest memory)) ∙ ap (λ (l : List ℕ). mid_of base rest memory ++ l) (sym none_after) ∙ take-append-drop rest (drop base memory)

  -- the words from the base on were lent, and came back
  pub lent_moved : {r : Sampled} {words : List ℕ} → Gives (taken part p s (mid_of base rest memory)) r words
      → Moves (moved_part part p s base memory) r.state (put_mid base rest memory words)
  unfolding moved_part
  lent_moved {r} {words} g = record {
    result = ap (λ (a : Sampled). a.state) g.result ∙ ap (λ (own : List ℕ). (taken part p s own).sampled.state) all_lent;
    words =
        ap (λ (l : List ℕ). take base memory ++ (words ++ l)) none_after ∙ ap (λ (l : List ℕ). take base memory ++ l) (append-nil words)
        ∙ ap (λ (l : List ℕ). take base memory ++ l) (g.words ∙ ap (λ (own : List ℕ). (taken part p s own).memory) all_lent);
  }
