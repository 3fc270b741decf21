-- Order 4, what is turned away: a refused sample leaves every state and every word as they were; a run that is turned away before its first record,
-- with 1, 13, 2 or 3, leaves its rooms so too.
use Prim.Native.Nat.{ℕ, zero, suc}
use Rattle.std.specs.Prelude.{Bool, true, false, ◌&&◌, ◌||◌, List, ◌≡◌, eqb, ltb, length}
use Rattle.std.proofs.Math.Bool.{not, cond}
use Rattle.std.proofs.Common.{true≢false, sym, ap, subst, ◌∙◌}
use Rattle.std.proofs.Math.Path.{refl}
use Rattle.chain_runs.specs.declared.run.Report.{Report}
use Rattle.chain_runs.specs.Test.{Verdict}
use Rattle.chain_runs.specs.Test.{Passed, Refused as Away}
use Rattle.chain_runs.specs.Run.{roomy_for, run_of}
use Rattle.chain_runs.specs.Sample.{row_sampled}
use Rattle.chain_runs.specs.Test.{by_test, test_of}
use Rattle.chain_work.specs.declared.records.Record.{Record}
use Rattle.chain_work.specs.declared.records.Record.TheVariants.{Whole, Leftover, End}
use Rattle.rows.specs.declared.row.Row.{Row}
use Rattle.chain_work.specs.Records as records
use Rattle.chain_work.specs.Records.{links_at, record_at, records_from, whole_records}
use Rattle.rows.specs.Row.{put_back, row_of}
use Rattle.rows.specs.Step.{After, chain_refusal, chain_stepped, judged_to, started_to, state_of, turned_away, wired_to}
use Rattle.rows.specs.StepLaws.{step_told}
use Rattle.chain_work.specs.Work.{Ended, Progress, at_end, turned, worked}
use Rattle.chip.specs.declared.state.State.{State}
use Rattle.counts.specs.declared.part.Part.{Part}
use Rattle.counts.specs.Either.{either}
use Rattle.counts.specs.Part.{depth_of}
use Rattle.fifo.specs.Outcome.{Refused}
use Rattle.fifo.specs.Sample.{is_taken}
use Rattle.links.specs.declared.record.Links.{Links}
use Rattle.links.specs.Record.{plain}
use Rattle.links.specs.Refuse.{fourteen, least, whole_refusal}
use Rattle.notes.specs.Fold.{ended, started}
use Rattle.notes.specs.ReachLaws.{fold_number}
use Rattle.pins.specs.declared.record.Pins.{Pins}
use Rattle.refusals.specs.Refuse.{refusal_of, refuses_eight, refuses_five, refuses_nine, refuses_seven, refuses_six, refuses_ten, refuses_twelve}
use Rattle.chain.specs.Chain.{Runs, Samples, ran, sampled}
use Rattle.chain.specs.ListLaws.{back_same}

-- of one sample of a row
module _ (row : Row) (memory : List ℕ) where
  abbrev Still : After → Type 0
  Still a = is_taken a.outcome ≡ false → (a.row ≡ row) × (a.memory ≡ memory)

  away_still : (number : ℕ) → Still (turned_away number row memory)
  away_still number e = (refl, refl)

  step_stays : (part : Part) (x : Links) → Still (chain_stepped part x row memory)
  unfolding chain_stepped
  step_stays part x =
      either Still (eqb (chain_refusal part x row) 0) _ _ (λ e. absurd (true≢false e)) (away_still (chain_refusal part x row))

  row_still : (number : ℕ) (bytes : List ℕ) → Still (row_sampled number bytes row memory)
  unfolding row_sampled
  row_still number bytes = by (test_of number row (length memory) true)
    where
      by : (verdict : Verdict)
          → Still (by_test verdict (λ part. cond (eqb (length bytes) 7) (chain_stepped part (links_at bytes 0) row memory) (turned_away 4 row memory))
          (λ refused. turned_away refused row memory))
      by (Passed part) = either Still (eqb (length bytes) 7) _ _ (step_stays part (links_at bytes 0)) (away_still 4)
      by (Away refused) = away_still refused

-- A refused sample leaves every state and every word as they were.
pub refused_still : (number : ℕ) (bytes : List ℕ) (states : List State) (memory : List ℕ) (refused : ℕ)
    → (sampled number bytes states memory).outcome ≡ Refused refused
    → (put_back (sampled number bytes states memory).row states ≡ states) × ((sampled number bytes states memory).memory ≡ memory)
refused_still number bytes states memory refused e =
    let still = row_still (row_of states) memory number bytes (ap is_taken e) in
    (ap (λ (row : Row). put_back row states) still.0 ∙ back_same states, still.1)

pub sample_still : (number : ℕ) (bytes : List ℕ) (states : List State) (memory : List ℕ) (after : List State) (left : List ℕ) (refused : ℕ)
    → Samples number bytes states memory (Refused refused) after left → (after ≡ states) × (left ≡ memory)
sample_still number bytes states memory after left refused s =
    let still = refused_still number bytes states memory refused (sym s.result) in
    (s.parts ∙ still.0, s.words ∙ still.1)

-- the numbers that come before any record
abbrev pub early : ℕ → Bool
early number = eqb number 1 || eqb number 13 || eqb number 2 || eqb number 3

abbrev Late : ℕ → Type 0
Late number = early number ≡ false

late : (test : Bool) (one other : ℕ) → Late one → Late other → Late (cond test one other)
late = either Late

part_late : (part : Part) (p : Pins) (s : State) → Late (refusal_of part p s)
unfolding refusal_of
part_late part p s =
    late (refuses_five p s) 5 _ refl
    (late (p.mrs && p.prs) _ 0
    (late (refuses_six p s) 6 _ refl
    (late (refuses_seven p s) 7 _ refl
    (late (refuses_eight p s) 8 _ refl
    (late (refuses_nine (depth_of part) p s) 9 _ refl
    (late (refuses_ten p s) 10 _ refl
    (late (refuses_twelve p s) 12 0 refl refl)))))) refl)

least_late : (one other : ℕ) → Late one → Late other → Late (least one other)
unfolding least
least_late one other a b = late (eqb one 0) other _ b (late (eqb other 0) one _ a (late (ltb one other) one other a b))

module _ (part : Part) (x : Links) (row : Row) where
  judged_late : (n : ℕ) → Late (judged_to part x row n)
  unfolding judged_to
  judged_late zero = refl
  judged_late (suc n) = least_late (judged_to part x row n) _ (judged_late n) (part_late part (wired_to part x row n) (state_of row n))

  chain_late : Late (chain_refusal part x row)
  unfolding chain_refusal whole_refusal
  chain_late =
      late (plain x.more) _ 4
      (late (x.pins.mrs && not (started_to row row.count)) 5 _ refl
      (late (fourteen x.pins) 14 _ refl (judged_late row.count))) refl

end_late : (r : Record) → Late (records.number_of r)
end_late (Whole head more) = refl
end_late Leftover = refl
end_late End = refl

-- no record, and no end of a trace, gives one of them
work_late : (lenient : Bool) (part : Part) (bytes : List ℕ) (g : Progress) → Late (worked lenient part bytes g).refusal
unfolding worked
work_late lenient part bytes g =
    fold_number (turned part) Late (λ x row memory. subst Late (sym (step_told part x row memory)) (chain_late part x row)) lenient (at_end bytes)
    (end_late (record_at bytes (whole_records bytes))) (records_from bytes 0 (whole_records bytes)) 0 g

module _ (lenient : Bool) (number : ℕ) (bytes : List ℕ) (g : Progress) where
  abbrev by_verdict : Verdict → Ended
  by_verdict verdict = by_test verdict (λ part. worked lenient part bytes g) (λ refused. ended refused 0 g)

  early_by : (verdict : Verdict) → early (by_verdict verdict).refusal ≡ true → by_verdict verdict ≡ ended (by_verdict verdict).refusal 0 g
  early_by (Passed part) e = absurd (true≢false (sym e ∙ work_late lenient part bytes g))
  early_by (Away refused) e = refl

  run_early : early (run_of lenient number bytes g).refusal ≡ true → run_of lenient number bytes g ≡ ended (run_of lenient number bytes g).refusal 0 g
  unfolding run_of
  run_early = early_by (test_of number g.state (length g.memory) (roomy_for lenient bytes g))

-- A run that is turned away before its first record leaves states, words, answers and marks as they were, and has taken none.
pub run_still : (lenient : Bool) (number : ℕ) (bytes : List ℕ) (states : List State) (memory answers marks : List ℕ)
    → early (ran lenient number bytes states memory answers marks).refusal ≡ true
    → (ran lenient number bytes states memory answers marks
    ≡ ended (ran lenient number bytes states memory answers marks).refusal 0 (started (row_of states) memory answers marks))
    × (put_back (ran lenient number bytes states memory answers marks).progress.state states ≡ states)
run_still lenient number bytes states memory answers marks e =
    let there = run_early lenient number bytes (started (row_of states) memory answers marks) e in
    (there, ap (λ (end : Ended). put_back end.progress.state states) there ∙ back_same states)

pub runs_still : (lenient : Bool) (number : ℕ) (bytes : List ℕ) (states : List State) (memory answers marks : List ℕ) (r : Report)
    (after : List State) (left written noted : List ℕ) → Runs lenient number bytes states memory answers marks r after left written noted
    → early r.refusal ≡ true
    → (after ≡ states) × (left ≡ memory) × (written ≡ answers) × (noted ≡ marks) × (r ≡ record { accepted = 0; index = 0; refusal = r.refusal })
runs_still lenient number bytes states memory answers marks r after left written noted f e =
    let told = ap (λ (report : Report). report.refusal) f.result in
    let still = run_still lenient number bytes states memory answers marks (ap early (sym told) ∙ e) in (
      f.parts ∙ still.1,
      f.words ∙ ap (λ (end : Ended). end.progress.memory) still.0,
      f.room ∙ ap (λ (end : Ended). end.progress.answers) still.0,
      f.marked ∙ ap (λ (end : Ended). end.progress.marks) still.0,
      f.result
          ∙ ap (λ (end : Ended). record { accepted = end.progress.accepted; index = end.index; refusal = end.refusal }) still.0
          ∙ ap (λ (number : ℕ). record { accepted = 0; index = 0; refusal = number }) (sym told),
    )
