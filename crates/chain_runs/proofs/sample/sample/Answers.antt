use Rattle.std.proofs.Common.{◌≡◌, length, refl, sym, ◌∙◌, ap, arith, rules}
use Rattle.chain_runs.specs.Test.{in_numbers}
use Rattle.chain_runs.specs.SampleLaws.{end_numbered, gives_by, sample_other, sample_refused, sample_steps, sample_worked, turned_away_lem}
use Rattle.chain_runs.specs.TestLaws.{passing, passing_fits}
use Rattle.chain_runs.proofs.sample.sample.Goals as goal

pub returns-then-bytes-ne7 : goal.returns-then-bytes-ne7
returns-then-bytes-ne7 c =
    let a = c.args in
    gives_by (sample_other a.part a.bytes.now a.row a.memory.now c.test-tested.ensures (ap in_numbers c.in-Ok.is) c.if-bytes-ne7.true)
    (turned_away_lem c.turn_away-then-bytes-ne7.ensures)

pub work-ran-requires : goal.work-ran-requires
work-ran-requires c =
    let eight : length c.args.row.states ≡ 8 = search rules in
    (passing_fits eight (passing _ _ _ _ _ (sym c.test-tested.ensures ∙ (ap in_numbers c.in-Ok.is))), omega (arith, c.if-bytes-ne7.false))

pub returns-in-Err : goal.returns-in-Err
returns-in-Err c =
    let a = c.args in
    gives_by (sample_refused a.part a.bytes.now a.row a.memory.now c.test-tested.ensures (ap in_numbers c.in-Err.is)) (turned_away_lem c.turn_away.ensures)

pub returns-else-bytes-ne7 : goal.returns-else-bytes-ne7
returns-else-bytes-ne7 c =
    let a = c.args in
    gives_by (sample_steps a.part a.bytes.now a.row a.memory.now c.test-tested.ensures (ap in_numbers c.in-Ok.is) c.if-bytes-ne7.false)
    (sample_worked _ a.bytes.now a.row a.memory.now c.if-bytes-ne7.false c.work-ran.ensures
    (c.outcome_by-outcome.ensures
    ∙ rw (c.of_number.ensures, end_numbered _ a.bytes.now a.row a.memory.now c.if-bytes-ne7.false c.work-ran.ensures, c.word_of-word.ensures) refl))
