-- Order 4, by the public operations: a run of a list of parts is a run of the chain, and puts back the row that its records lead to; without room it
-- is refused 2 and moves nothing.
use Rattle.std.specs.Prelude.{ℕ, ◌*◌, ◌≤◌, Bool, true, false, List, [], ◌∷◌, ◌≡◌, refl, length, take}
use Rattle.std.proofs.Common.{true≢false, sym, ap, subst, ◌∙◌, le-leb, leb-true, arith}
use Rattle.chain_runs.specs.Test.{Refused}
use Rattle.chain_runs.specs.Run.{run_of}
use Rattle.chain_runs.specs.RunLaws.{run_passed, run_refused}
use Rattle.chain_runs.specs.Test.{known_test, test_of}
use Rattle.chain_work.specs.Records.{records_from, whole_records}
use Rattle.rows.specs.Step.{state_of}
use Rattle.rows.specs.StepLaws.{step_count}
use Rattle.chain_work.specs.Work.{Ended, Progress, worked}
use Rattle.counts.specs.Both.{both}
use Rattle.counts.specs.declared.part.Part.{Part}
use Rattle.counts.specs.Part.{number_of}
use Rattle.counts.specs.PartLaws.{own_number}
use Rattle.links.specs.declared.record.Links.{Links}
use Rattle.notes.specs.Fold.{ended, roomy, started}
use Rattle.linked.specs.Chaining.{Chain, chain_led, chain_next, chain_outcome}
use Rattle.linked.specs.LinkedLaws.{linked_led}
use Rattle.linked.specs.Listed.{Call, Listed, Parts, called, run_over, worked_in}
use Rattle.linked.specs.Listed.Call.{OneRun}
use Rattle.linked.specs.ListedLaws.{list_passes, past_stays, put_listed, several_parts}
use Rattle.linked.specs.RefusedLaws.{Comes}
use Rattle.linked.specs.RunLaws.{records_narrow, run_comes, run_led, samples_run}

-- room for three bytes of answer to each whole record and, in a lenient run, for a mark
abbrev pub Room : Bool → List ℕ → List ℕ → List ℕ → Type 0
Room lenient bytes answers marks =
    (whole_records bytes * 3 ≤ length answers) × (lenient ≡ true → whole_records bytes ≤ length marks)

room_there : (lenient : Bool) (bytes answers marks : List ℕ) → Room lenient bytes answers marks
    → roomy lenient (whole_records bytes * 3) (whole_records bytes) (length answers) (length marks) ≡ true
room_there true bytes answers marks r = simp (le-leb _ _ r.0, le-leb _ _ (r.1 refl))
room_there false bytes answers marks r = simp (le-leb _ _ r.0)

told_room : (lenient : Bool) (bytes answers marks : List ℕ)
    → roomy lenient (whole_records bytes * 3) (whole_records bytes) (length answers) (length marks) ≡ true → Room lenient bytes answers marks
told_room true bytes answers marks e = let all = both _ _ e in (leb-true _ _ all.0, λ t. leb-true _ _ all.1)
told_room false bytes answers marks e = (leb-true _ _ (both _ _ e).0, λ t. absurd (true≢false (sym t)))

room_none : (lenient : Bool) (bytes answers marks : List ℕ) → ¬ Room lenient bytes answers marks
    → roomy lenient (whole_records bytes * 3) (whole_records bytes) (length answers) (length marks) ≡ false
room_none lenient bytes answers marks none = by _ refl
  where
    by : (is : Bool) → roomy lenient (whole_records bytes * 3) (whole_records bytes) (length answers) (length marks) ≡ is → is ≡ false
    by true e = absurd (none (told_room lenient bytes answers marks e))
    by false e = refl

-- a part past the row's number is moved by no list of samples
past_led : (part : Part) (xs : List Links) (c : Chain) (i : ℕ) → c.row.count ≤ i → state_of (chain_led part c xs).row i ≡ state_of c.row i
unfolding chain_led chain_next chain_outcome
past_led part [] c i l = refl
past_led part (x ∷ xs) c i l =
    past_led part xs (chain_next part c x) i (rw (step_count part x c.row c.memory) l) ∙ past_stays part c x i l

module _ (part : Part) (n : ℕ) (l : Parts) (c : Chain) (h : Listed part n l c) (lenient : Bool) (bytes answers marks : List ℕ) where
  abbrev start : Progress
  start = started c.row c.memory answers marks

  abbrev run : Ended
  run = run_over part l lenient bytes answers marks

  abbrev call : Call
  call = OneRun lenient bytes answers marks

  -- the same run, of the chain's row and words
  as_row : run ≡ run_of lenient (number_of part) bytes start
  unfolding run_over
  as_row i = run_of lenient (number_of part) bytes (started (h.row i) (h.words i) answers marks)

  module _ (room : Room lenient bytes answers marks) where
    -- With room the list's run is the chain's,
    pub run_works : run ≡ worked lenient part bytes start
    run_works =
        as_row
        ∙ run_passed lenient (number_of part) bytes start (sym (room_there lenient bytes answers marks room)) refl (list_passes part n l c h)

    -- and ends with no other number than its samples can have.
    pub run_ends : Comes run.refusal
    run_ends = rw run_works (run_comes part c lenient bytes answers marks n h.linked)

    run_through : Listed part n (called part l call) (chain_led part c (samples_run part c lenient bytes answers marks))
    run_through =
        let more = samples_run part c lenient bytes answers marks in
        let lead = run_led part c lenient bytes answers marks in
        let end = worked lenient part bytes start in
        let linked = linked_led part n more (records_narrow bytes end.index 0 (whole_records bytes)) c h.linked in
        let there = put_listed part n l c h (chain_led part c more) linked
        (λ i k small. past_led part more c i (omega (arith, k, h.linked.chained.count)) ∙ h.past i k small) in
        rw (run_works, lead.0, lead.1) there

    run_worked : samples_run part c lenient bytes answers marks ≡ worked_in part l call
    run_worked = ap (λ (e : Ended). take e.index (records_from bytes 0 (whole_records bytes))) (sym run_works)

    room_listed : Listed part n (called part l call) (chain_led part c (worked_in part l call))
    room_listed = subst (λ (xs : List Links). Listed part n (called part l call) (chain_led part c xs)) run_worked run_through

  no_room : test_of (number_of part) c.row (length c.memory) false ≡ Refused 2
  unfolding test_of known_test
  no_room = simp (own_number part, several_parts part n l c h)

  module _ (none : ¬ Room lenient bytes answers marks) where
    -- Without room it is refused 2, and nothing moves.
    pub run_turned : run ≡ ended 2 0 start
    run_turned = as_row ∙ run_refused lenient (number_of part) bytes start (sym (room_none lenient bytes answers marks none)) refl no_room

    none_listed : Listed part n (called part l call) (chain_led part c (worked_in part l call))
    unfolding chain_led
    none_listed = rw run_turned (put_listed part n l c h c h.linked h.past)

  -- Either way it leads the list where the records that it worked lead the chain.
  pub listed_run : Listed part n (called part l call) (chain_led part c (worked_in part l call))
  listed_run = by _ refl
    where
      by : (is : Bool) → roomy lenient (whole_records bytes * 3) (whole_records bytes) (length answers) (length marks) ≡ is
          → Listed part n (called part l call) (chain_led part c (worked_in part l call))
      by true e = room_listed (told_room lenient bytes answers marks e)
      by false e =
          none_listed (λ room. true≢false (sym (room_there lenient bytes answers marks room) ∙ e))
