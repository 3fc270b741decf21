use Rattle.std.proofs.Common.{◌≡◌, ℕ, ◌+◌, ◌-◌, ◌≤◌, List, ◌++◌, rules, length, take, sym, ap, ◌∙◌, subst, length-take-le}
use Rattle.std.proofs.Math.Seq.{take-append-add}
use Rattle.std.proofs.lemmas.List.{take-append-le}
use Rattle.std.specs.Io.KnownBytes.{Consumes}
use Rattle.std.proofs.KnownBytes.{Consumes-trans}
use borrow.Rule.Slice.PartMut.{put_mid, post_of}
use Rattle.input.proofs.chunks.read.Goals as goal

take-put_mid_more : (a k n : ℕ) (xs ys : List ℕ) → a ≤ length xs → n ≤ length ys → take (a + n) (put_mid a k xs ys) ≡ take a xs ++ take n ys
take-put_mid_more a k n xs ys within fits =
    let filled = ys ++ post_of a k xs in
    ap (λ m. take (m + n) (take a xs ++ filled)) (sym (length-take-le a xs within)) ∙ take-append-add (take a xs) filled n ∙ ap (λ l. take a xs ++ l) (take-append-le n ys (post_of a k xs) fits)

pub loop-came-preserved : goal.loop-came-preserved
loop-came-preserved g c =
    let room = length c.loop-came.chunk - c.loop-came.came in
    let joined = take-put_mid_more c.loop-came.came room c.in-Ok.more c.loop-came.chunk c.read.new.buf c.loop-came.invariant.within c.in-Ok.ensures.bound.0 in
    record {
      same_length = search rules;
      within = search rules;
      fits = search rules;
      given = subst (Consumes _ _) (sym joined) (Consumes-trans _ _ _ _ _ c.loop-came.invariant.given c.in-Ok.ensures.bytes.0);
    }
