-- What is turned away, on a run: the marks keep their length, and no more are accepted than were worked.
use Rattle.std.specs.Prelude.{ℕ, ◌+◌, ◌≤◌, Bool, true, false, cond, List, ◌≡◌, refl, eqb, length}
use Rattle.std.proofs.Common.{length-set, arith}
use Rattle.pins.specs.Answer.{put_answer}
use Rattle.notes.specs.Fold.{accepted_after, marks_after}

pub put_length : (room : List ℕ) (index answer : ℕ) → length (put_answer room index answer) ≡ length room
unfolding put_answer
put_length room index answer = simp length-set

pub marks_length : (lenient : Bool) (number index : ℕ) (room : List ℕ) → length (marks_after lenient number index room) ≡ length room
marks_length true number index room = length-set room index number
marks_length false number index room = refl

most_by : (taken : Bool) (accepted index : ℕ) → accepted ≤ index → cond taken (accepted + 1) accepted ≤ index + 1
most_by true accepted index h = omega arith
most_by false accepted index h = omega arith

pub accepted_most : (number accepted index : ℕ) → accepted ≤ index → accepted_after number accepted ≤ index + 1
accepted_most number = most_by (eqb number 0)
