-- Order 4, on a run: how it begins.
use Rattle.std.specs.Prelude.{ℕ, ◌*◌, ◌≤◌, Bool, true, not, ◌||◌, List, ◌≡◌, leb, length}
use Rattle.std.proofs.Math.Path.{refl}
use Rattle.std.proofs.Common.{sym, ap, ◌∙◌, leb-true}
use Rattle.chain_work.specs.Records.{whole_records}
use Rattle.chain_work.specs.Work.{Progress, worked}
use Rattle.counts.specs.Both.{both}
use Rattle.counts.specs.declared.part.Part.{Part}
use Rattle.notes.specs.Fold.{ended}
use Rattle.chain_runs.specs.Test.{Verdict}
use Rattle.chain_runs.specs.Test.{Passed, Refused}
use Rattle.chain_runs.specs.Run.{roomy_for, run_of}
use Rattle.chain_runs.specs.Test.{test_of}

module _ (lenient : Bool) (number : ℕ) (bytes : List ℕ) (g : Progress) {room : Bool} (r : room ≡ roomy_for lenient bytes g) {verdict : Verdict}
    (v : verdict ≡ test_of number g.state (length g.memory) room) where
  told : test_of number g.state (length g.memory) (roomy_for lenient bytes g) ≡ verdict
  told = ap (test_of number g.state (length g.memory)) (sym r) ∙ sym v

  pub run_passed : {part : Part} → verdict ≡ Passed part → run_of lenient number bytes g ≡ worked lenient part bytes g
  unfolding run_of
  run_passed e = rw (told ∙ e) refl

  pub run_refused : {refused : ℕ} → verdict ≡ Refused refused → run_of lenient number bytes g ≡ ended refused 0 g
  unfolding run_of
  run_refused e = rw (told ∙ e) refl

-- where there is room, there is room for the answers
pub room_told : (lenient : Bool) (bytes : List ℕ) (g : Progress) → roomy_for lenient bytes g ≡ true → whole_records bytes * 3 ≤ length g.answers
room_told lenient bytes g e =
    let answers = leb (whole_records bytes * 3) (length g.answers) in
    let marks = not lenient || leb (whole_records bytes) (length g.marks) in
    leb-true _ _ (both answers marks e).0
