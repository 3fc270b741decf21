-- What is turned away, 9: the words accepted since reset, told exactly though the write count goes round its width.
use Rattle.std.specs.Prelude.{ℕ, ◌+◌, ◌-◌, ◌%◌, ◌<◌, Bool, true, false, not, cond, ◌&&◌, ◌||◌, ◌≢◌, ◌≡◌, refl, eqb, leb, ltb}
use Rattle.std.proofs.Math.Bool.{or-false}
use Rattle.std.proofs.Common.{sym, eqb-true, le-leb, leb-true, leb-false, lt-ltb, ne_eqb, arith}
use Rattle.std.proofs.lemmas.Bool.{eqb-false, lt-leb}
use Rattle.counts.specs.Round.{more, width}
use Rattle.pins.specs.declared.record.Pins.{Pins}
use Rattle.sides.specs.declared.read.ReadSide.{ReadSide}
use Rattle.sides.specs.declared.write.WriteSide.{WriteSide}
use Rattle.sides.specs.Write.{accepted_more, accepted_none, accepts, write_after, write_count_after}

-- what a write side keeps of the number of words accepted since reset
pub record Tallies (accepted : ℕ) (w : WriteSide) : Type 0 where
  pub count : w.count.0 ≡ accepted % width
  pub wrapped : w.wrapped ≡ leb width accepted

none_by : (accepted : ℕ) (wrapped : Bool) → leb width accepted ≡ wrapped → not wrapped && eqb (accepted % width) 0 ≡ eqb accepted 0
none_by accepted true e = let h = leb-true width accepted e in sym (ne_eqb accepted 0 (λ z. omega arith))
none_by accepted false e =
    let h = leb-false width accepted e in
    let same : accepted % width ≡ accepted = omega arith in
    rw same

pub none_exact : (accepted : ℕ) (w : WriteSide) → Tallies accepted w → accepted_none w ≡ eqb accepted 0
none_exact accepted w k = simp (k.count, k.wrapped) (none_by accepted (leb width accepted) refl)

more_by : (limit accepted : ℕ) (wrapped : Bool) → leb width accepted ≡ wrapped → limit < width
    → wrapped || ltb limit (accepted % width) ≡ ltb limit accepted
more_by limit accepted true e l = let h = leb-true width accepted e in sym (lt-ltb limit accepted (omega arith))
more_by limit accepted false e l =
    let h = leb-false width accepted e in
    let same : accepted % width ≡ accepted = omega arith in
    rw same

pub more_exact : (limit accepted : ℕ) (w : WriteSide) → limit < width → Tallies accepted w → accepted_more limit w ≡ ltb limit accepted
more_exact limit accepted w l k = simp (k.count, k.wrapped) (more_by limit accepted (leb width accepted) refl l)

wraps_now : (accepted : ℕ) (last : Bool) → eqb (accepted % width) (width - 1) ≡ last → accepted < width → last ≡ leb width (accepted + 1)
wraps_now accepted true e h = let l = eqb-true (accepted % width) (width - 1) e in sym (le-leb width (accepted + 1) (omega arith))
wraps_now accepted false e h =
    let n : accepted % width ≢ width - 1 = eqb-false (accepted % width) (width - 1) e in
    sym (lt-leb width (accepted + 1) (omega arith))

wraps_by_now : (accepted : ℕ) (wrapped : Bool) → leb width accepted ≡ wrapped
    → wrapped || eqb (accepted % width) (width - 1) ≡ leb width (accepted + 1)
wraps_by_now accepted true e = let h = leb-true width accepted e in sym (le-leb width (accepted + 1) (omega arith))
wraps_by_now accepted false e = wraps_now accepted (eqb (accepted % width) (width - 1)) refl (leb-false width accepted e)

count_by : (accepted count : ℕ) (accepts : Bool) → count ≡ accepted % width
    → cond accepts (more width count) count ≡ cond accepts (accepted + 1) accepted % width
count_by accepted count true e = omega arith
count_by accepted count false e = e

wrapped_by : (accepted count : ℕ) (accepts wrapped : Bool) → count ≡ accepted % width → wrapped ≡ leb width accepted
    → wrapped || accepts && eqb count (width - 1) ≡ leb width (cond accepts (accepted + 1) accepted)
wrapped_by accepted count true wrapped e f = rw (e, f) (wraps_by_now accepted (leb width accepted) refl)
wrapped_by accepted count false wrapped e f = rw f (or-false (leb width accepted))

-- one sample outside reset: one word more where one is accepted
pub tallies_after : (accepted depth m : ℕ) (p : Pins) (r : ReadSide) (w : WriteSide) → Tallies accepted w
    → Tallies (cond (accepts depth p w) (accepted + 1) accepted) (write_after depth m p r w)
unfolding write_after write_count_after
tallies_after accepted depth m p r w k = record {
  count = count_by accepted w.count.0 (accepts depth p w) k.count;
  wrapped = wrapped_by accepted w.count.0 (accepts depth p w) w.wrapped k.count k.wrapped;
}
