-- A strict run from a state that is the one that a definition begins with, and what is told of its result.
use Rattle.std.specs.Prelude.{List, ℕ, ◌≡◌}
use Rattle.std.proofs.Common.{ap, subst}
use Rattle.notes.specs.Fold.{Ended, EndsStrict}

-- of a run's end, the index
abbrev pub index_of : {S M : Type 0} → Ended S M → ℕ
index_of e = e.index

pub began : {S M R Q : Type 0} {ran : Ended S M → R} (run : S → Ended S M) (told : R → Q) {s t : S} {r : R} {memory : M} {answers : List ℕ} → s ≡ t
    → EndsStrict ran (run s) r memory answers → EndsStrict (λ e. told (ran e)) (run t) (told r) memory answers
began {S = S} {ran = ran} run told {r = r} {memory = memory} {answers = answers} e h =
    let g = subst (λ (u : S). EndsStrict ran (run u) r memory answers) e h in
    record { result = ap told g.result; words = g.words; room = g.room }
