use Rattle.std.proofs.Common.{arith, refl, sym, ◌∙◌}
use Rattle.halves.specs.Two.{two}
use Rattle.notes.specs.Fold.{started}
use Rattle.pair_work.specs.SamplesLaws.{whole_below}
use Rattle.pair_work.proofs.WorkLaws.{both_wide, each_wide, ended_now, going, no_whole, stopped_now, turned_now}
use Rattle.pair_work.proofs.work.work.Goals as goal

pub loop-left-init : goal.loop-left-init
loop-left-init c =
    let a = c.args in
    going a.lenient a.part a.trace.now (started a.state (two a.left_memory.now a.right_memory.now) a.answers.now a.marks.now)
    (both_wide a.part a.state (c.requires.0, c.requires.1)) refl

pub returns-in_default : goal.returns-in_default
returns-in_default c =
    rw c.end_at.ensures
    (ended_now c.loop-left.invariant c.sample_at-sample.ensures.result (no_whole c.sample_at-sample.result c.in_default.not-Whole) c.ending.ensures)

pub step-sampled-requires : goal.step-sampled-requires
step-sampled-requires c = each_wide _ _ c.loop-left.invariant.turns.fitting

pub returns-then-is_stop : goal.returns-then-is_stop
returns-then-is_stop c =
    rw c.end_at-then-is_stop.ensures
    (stopped_now c.loop-left.invariant c.sample_at-sample.ensures.result c.in-Whole.is c.step-sampled.ensures.gives
    c.number_of-number.ensures c.is_stop.ensures c.if-is_stop.true)

pub note_answers-requires : goal.note_answers-requires
note_answers-requires c =
    let below = whole_below _ _ (sym c.sample_at-sample.ensures.result ∙ c.in-Whole.is) in
    omega (arith, below, c.loop-left.invariant.turns.room, c.requires.2)

pub count-accepted-requires : goal.count-accepted-requires
count-accepted-requires c =
    let below = whole_below _ _ (sym c.sample_at-sample.ensures.result ∙ c.in-Whole.is) in
    omega (arith, below, c.loop-left.invariant.turns.counted, c.well_formed)

pub overflow_add-index : goal.overflow_add-index
overflow_add-index c =
    let below = whole_below _ _ (sym c.sample_at-sample.ensures.result ∙ c.in-Whole.is) in
    omega (arith, below, c.well_formed)

pub loop-left-smaller : goal.loop-left-smaller
loop-left-smaller c =
    let below = whole_below _ _ (sym c.sample_at-sample.ensures.result ∙ c.in-Whole.is) in
    omega (arith, below)

pub loop-left-preserved : goal.loop-left-preserved
loop-left-preserved c =
    turned_now c.loop-left.invariant c.sample_at-sample.ensures.result c.in-Whole.is c.step-sampled.ensures.gives
    c.number_of-number.ensures c.is_stop.ensures c.if-is_stop.false c.note_answers.ensures c.note_mark.ensures c.count-accepted.ensures
