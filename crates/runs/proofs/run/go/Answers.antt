use Rattle.std.proofs.Common.{arith, refl, sym, ◌∙◌}
use Rattle.pins.specs.TraceLaws.{whole_below}
use Rattle.notes.specs.Fold.{started}
use Rattle.runs.proofs.RunLaws.{ended_now, going, no_whole, stopped_now, turned_now}
use Rattle.runs.proofs.run.go.Goals as goal

pub loop-word-init : goal.loop-word-init
loop-word-init c =
    let a = c.args in
    going a.lenient a.part a.trace.now (started a.state a.memory.now a.answers.now a.marks.now) c.requires.0 refl

pub returns-in_default : goal.returns-in_default
returns-in_default c =
    rw c.end_at.ensures
    (ended_now c.loop-word.invariant c.record_at-record.ensures.result (no_whole c.record_at-record.result c.in_default.not-Whole) c.ending.ensures)

pub step-sampled-requires : goal.step-sampled-requires
step-sampled-requires c = c.loop-word.invariant.turns.fitting

pub returns-then-is_stop : goal.returns-then-is_stop
returns-then-is_stop c =
    rw c.end_at-then-is_stop.ensures
    (stopped_now c.loop-word.invariant c.record_at-record.ensures.result c.in-Whole.is c.step-sampled.ensures.gives
    c.number_of-number.ensures c.is_stop.ensures c.if-is_stop.true)

pub note_answer-requires : goal.note_answer-requires
note_answer-requires c =
    let below = whole_below _ _ (sym c.record_at-record.ensures.result ∙ c.in-Whole.is) in
    omega (arith, below, c.loop-word.invariant.turns.room, c.requires.1)

pub count-accepted-requires : goal.count-accepted-requires
count-accepted-requires c =
    let below = whole_below _ _ (sym c.record_at-record.ensures.result ∙ c.in-Whole.is) in
    omega (arith, below, c.loop-word.invariant.turns.counted, c.well_formed)

pub overflow_add-index : goal.overflow_add-index
overflow_add-index c =
    let below = whole_below _ _ (sym c.record_at-record.ensures.result ∙ c.in-Whole.is) in
    omega (arith, below, c.well_formed)

pub loop-word-smaller : goal.loop-word-smaller
loop-word-smaller c =
    let below = whole_below _ _ (sym c.record_at-record.ensures.result ∙ c.in-Whole.is) in
    omega (arith, below)

pub loop-word-preserved : goal.loop-word-preserved
loop-word-preserved c =
    turned_now c.loop-word.invariant c.record_at-record.ensures.result c.in-Whole.is c.step-sampled.ensures.gives
    c.number_of-number.ensures c.is_stop.ensures c.if-is_stop.false c.note_answer.ensures c.note_mark.ensures c.count-accepted.ensures
