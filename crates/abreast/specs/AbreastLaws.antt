-- A sample that both parts take leaves them abreast.
use Rattle.std.specs.Prelude.{ℕ, ◌+◌, Bool, true, false, cond, ◌&&◌, List, [], ◌∷◌, ◌++◌, ◌≡◌, length}
use Rattle.std.proofs.Math.Bool.{not}
use Rattle.std.proofs.Math.Path.{refl, sym, ap}
use Rattle.std.proofs.Common.{subst, ◌∙◌}
use Rattle.counts.specs.declared.part.Part.{Part}
use Rattle.pins.specs.declared.record.Pins.{Pins}
use Rattle.pins.specs.declared.record.Skew.{Skew}
use Rattle.pins.specs.Record.{pins_of, with_own}
use Rattle.history.specs.Asked.{reads_word, taken_next}
use Rattle.history.specs.Onlooker.{Notes, Shown, accepts, asks_read, asks_write, full, noted, outside, reads, ready, went_on}
use Rattle.history.specs.TakenLaws.{notes_taken}
use Rattle.history.specs.Trace.{Moment, next, shown_by}
use Rattle.history.specs.WordLaws.{length_after}
use Rattle.abreast.specs.Abreast.{Abreast, Records, RoomHeeded, TakenSame, WordHeeded}
use Rattle.joint.specs.RefuseLaws.{same_pins_lem}

-- what is asked happens in both where both flags allow it, and what is not asked in neither
alike_where : (asked one two : Bool) → (asked ≡ true → one ≡ two) → asked && one ≡ asked && two
alike_where true one two h = h refl
alike_where false one two h = refl

more_alike : (one : Bool) (l k : List ℕ) (x y : ℕ) → length l ≡ length k → length (cond one (l ++ (x ∷ [])) l) ≡ length (cond one (k ++ (y ∷ [])) k)
more_alike one l k x y e = length_after one l x (length k) e ∙ sym (length_after one k y (length k) refl)

-- by the two reset pins: a reset leaves no word accepted or taken
by_reset : (mrs prs : Bool) (on onToo over overToo anew anewToo : Notes) (n k : ℕ)
    → Abreast on n onToo k → Abreast over 0 overToo 0 → Abreast anew 0 anewToo 0
    → Abreast (cond mrs (cond prs on over) anew) (cond (not (mrs && prs)) 0 n) (cond mrs (cond prs onToo overToo) anewToo) (cond (not (mrs && prs)) 0 k)
by_reset true true on onToo over overToo anew anewToo n k a b c = a
by_reset true false on onToo over overToo anew anewToo n k a b c = b
by_reset false prs on onToo over overToo anew anewToo n k a b c = c

-- abreast after a sample of these pins, by what is shown before and after it
abbrev AbreastBy : Notes → Notes → ℕ → ℕ → Pins → Pins → Shown → Shown → Shown → Shown → Type 0
AbreastBy left right n k p q before beforeToo after afterToo =
    Abreast (noted left p before after) (cond (not (outside p)) 0 (cond (reads left p before) (n + 1) n))
    (noted right q beforeToo afterToo) (cond (not (outside q)) 0 (cond (reads right q beforeToo) (k + 1) k))

-- the notes through a sample of these pins, for the right part with marks and D of its own, by what each is shown before and after it
module _ (left right : Notes) (n k : ℕ) (like : Abreast left n right k) (p : Pins) (skew : Skew) (unsettled : Bool) (d : ℕ) (before beforeToo after afterToo : Shown)
    (room : asks_write left p ≡ true → (full left.fwft before ≡ false) × (full right.fwft beforeToo ≡ false))
    (word : asks_read left p ≡ true → (ready left.fwft before ≡ true) × (ready right.fwft beforeToo ≡ true)) where
  abbrev q : Pins
  q = with_own skew unsettled d p

  accepts_both : accepts left p before ≡ accepts right q beforeToo
  unfolding accepts
  accepts_both =
      rw (← like.wclk)
      (alike_where (asks_write left p) (not (full left.fwft before)) (not (full right.fwft beforeToo)) (λ e. ap not ((room e).0 ∙ sym (room e).1)))

  reads_both : reads left p before ≡ reads right q beforeToo
  unfolding reads
  reads_both =
      rw (← like.rclk)
      (alike_where (asks_read left p) (ready left.fwft before) (ready right.fwft beforeToo) (λ e. (word e).0 ∙ sym (word e).1))

  abreast_noted : AbreastBy left right n k p q before beforeToo after afterToo
  unfolding noted went_on
  abreast_noted =
      by_reset p.mrs p.prs _ _ _ _ _ _ _ _
      (record {
        accepted = rw accepts_both (more_alike (accepts right q beforeToo) left.accepted right.accepted _ _ like.accepted);
        taken = rw (reads_both, like.taken);
        wclk = refl;
        rclk = refl;
        fwft = like.fwft;
      })
      (record { accepted = refl; taken = refl; wclk = refl; rclk = refl; fwft = like.fwft })
      (record { accepted = refl; taken = refl; wclk = refl; rclk = refl; fwft = refl })

module _ (part : Part) (left right : Moment) (n k : ℕ) (like : Abreast left.notes n right.notes k) (s : Records) where
  abbrev Stays : Type 0
  Stays =
      Abreast (next part left s.left).notes (taken_next part left s.left n) (next part right s.right).notes (taken_next part right s.right k)

  pub abreast_next : TakenSame part left right s → RoomHeeded part left right s → WordHeeded part left right s → Stays
  unfolding taken_next reads_word
  abreast_next taken room word =
      let x = s.left in
      let y = s.right in
      rw (notes_taken part left x taken.0, notes_taken part right y taken.1, taken.0, taken.1)
      (subst (λ (pins : Pins). AbreastBy left.notes right.notes n k (pins_of x) pins (shown_by part left.state) (shown_by part right.state)
      (shown_by part (next part left x).state) (shown_by part (next part right y).state)) (sym (same_pins_lem x y taken.2))
      (abreast_noted left.notes right.notes n k like (pins_of x) (pins_of y).skew (pins_of y).unsettled (pins_of y).d _ _ _ _ room word))
