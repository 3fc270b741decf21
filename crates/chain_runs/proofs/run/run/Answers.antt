use Rattle.std.proofs.Common.{◌≡◌, length, refl, sym, ◌∙◌, ap, rules}
use Rattle.notes.specs.Fold.{started}
use Rattle.notes.specs.LoopLaws.{ends_by, turned_away_lem}
use Rattle.chain_work.specs.Work.{ran_of}
use Rattle.chain_runs.specs.Test.{in_numbers}
use Rattle.chain_runs.specs.RunLaws.{room_told, run_passed, run_refused}
use Rattle.chain_runs.specs.TestLaws.{passing, passing_fits}
use Rattle.chain_runs.proofs.run.run.Goals as goal

pub work-requires : goal.work-requires
work-requires c =
    let a = c.args in
    let eight : length a.row.states ≡ 8 = search rules in
    let p = passing _ _ _ _ _ (sym c.test-tested.ensures ∙ (ap in_numbers c.in-Ok.is)) in (
      passing_fits eight p,
      room_told a.lenient a.trace.now (started a.row a.memory.now a.answers.now a.marks.now) (sym c.is_roomy-roomy.ensures ∙ p.room),
    )

pub returns-in-Ok : goal.returns-in-Ok
returns-in-Ok c =
    let a = c.args in
    ends_by
    (run_passed a.lenient a.part a.trace.now (started a.row a.memory.now a.answers.now a.marks.now) c.is_roomy-roomy.ensures c.test-tested.ensures (ap in_numbers c.in-Ok.is))
    c.work.ensures

pub returns-in-Err : goal.returns-in-Err
returns-in-Err c =
    let a = c.args in
    turned_away_lem {ran = ran_of}
    (run_refused a.lenient a.part a.trace.now (started a.row a.memory.now a.answers.now a.marks.now) c.is_roomy-roomy.ensures c.test-tested.ensures (ap in_numbers c.in-Err.is))
    (c.end_at.ensures ∙ rw c.number.ensures refl)
