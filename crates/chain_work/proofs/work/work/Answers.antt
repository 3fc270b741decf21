use Rattle.std.proofs.Common.{sym, ◌∙◌, arith}
use Rattle.rows.specs.StepLaws.{fits_told}
use Rattle.chain_work.specs.RecordsLaws.{whole_below}
use Rattle.chain_work.proofs.TurnLaws.{all_moved, answer_now, base_within, below, doing, moved_now, moving_most, wide_at, wired_at}
use Rattle.chain_work.proofs.WorkLaws.{ended_now, no_whole, stopped_now, turned_now}
use Rattle.chain_work.proofs.work.work.Goals as goal

pub returns-in_default : goal.returns-in_default
returns-in_default c =
    rw c.end_at.ensures
    (ended_now c.loop-head.invariant c.record_at-record.ensures.result (no_whole c.record_at-record.result c.in_default.not-Whole) c.ending.ensures)

pub refusal-requires : goal.refusal-requires
refusal-requires c = (fits_told _ _ _ c.loop-head.invariant.turns.fitting).most

pub returns-then-is_stop : goal.returns-then-is_stop
returns-then-is_stop c =
    rw c.end_at-then-is_stop.ensures
    (stopped_now c.loop-head.invariant c.record_at-record.ensures.result c.in-Whole.is c.read_links-x.ensures (c.number_of-number.ensures ∙ c.refusal.ensures) c.is_stop.ensures
    c.if-is_stop.true)

pub loop-i-init : goal.loop-i-init
loop-i-init c =
    let f = fits_told _ _ _ c.loop-head.invariant.turns.fitting in
    doing _ _ _ _ _ f _ _ c.lines-earlier.ensures

pub offset_bounds-r-i : goal.offset_bounds-r-i
offset_bounds-r-i c =
    let f = fits_told _ _ _ c.loop-head.invariant.turns.fitting in
    let most = moving_most c.number_of-number.result _ c.moving_parts-moving.ensures in
    omega (arith, below _ _ _ _ _ f c.loop-i.invariant c.loop-i-test.true most)

pub bounds-r-i : goal.bounds-r-i
bounds-r-i c =
    let f = fits_told _ _ _ c.loop-head.invariant.turns.fitting in
    let most = moving_most c.number_of-number.result _ c.moving_parts-moving.ensures in
    below _ _ _ _ _ f c.loop-i.invariant c.loop-i-test.true most

pub wire_part-p-requires : goal.wire_part-p-requires
wire_part-p-requires c =
    let f = fits_told _ _ _ c.loop-head.invariant.turns.fitting in
    let most = moving_most c.number_of-number.result _ c.moving_parts-moving.ensures in
    below _ _ _ _ _ f c.loop-i.invariant c.loop-i-test.true most

pub overflow_mul-i : goal.overflow_mul-i
overflow_mul-i c =
    let f = fits_told _ _ _ c.loop-head.invariant.turns.fitting in
    let most = moving_most c.number_of-number.result _ c.moving_parts-moving.ensures in
    let within = base_within _ _ _ _ _ f c.loop-i.invariant c.loop-i-test.true most c.depth.ensures c.loop-head.invariant.turns.words in
    omega (arith, within, c.loop-i.auto.memory)

pub move_part-requires : goal.move_part-requires
move_part-requires c =
    let f = fits_told _ _ _ c.loop-head.invariant.turns.fitting in
    let most = moving_most c.number_of-number.result _ c.moving_parts-moving.ensures in (
      base_within _ _ _ _ _ f c.loop-i.invariant c.loop-i-test.true most c.depth.ensures c.loop-head.invariant.turns.words,
      wide_at _ _ _ _ _ f c.loop-i.invariant c.loop-i-test.true most _,
    )

pub offset_bounds-r-i-in-loop-i : goal.offset_bounds-r-i-in-loop-i
offset_bounds-r-i-in-loop-i c =
    let f = fits_told _ _ _ c.loop-head.invariant.turns.fitting in
    let most = moving_most c.number_of-number.result _ c.moving_parts-moving.ensures in
    omega (arith, below _ _ _ _ _ f c.loop-i.invariant c.loop-i-test.true most)

pub bounds-r-i-in-loop-i : goal.bounds-r-i-in-loop-i
bounds-r-i-in-loop-i c =
    let f = fits_told _ _ _ c.loop-head.invariant.turns.fitting in
    let most = moving_most c.number_of-number.result _ c.moving_parts-moving.ensures in
    below _ _ _ _ _ f c.loop-i.invariant c.loop-i-test.true most

pub loop-i-preserved : goal.loop-i-preserved
loop-i-preserved c =
    let f = fits_told _ _ _ c.loop-head.invariant.turns.fitting in
    let most = moving_most c.number_of-number.result _ c.moving_parts-moving.ensures in
    moved_now _ _ _ _ _ f c.loop-i.invariant c.loop-i-test.true most _
    (wired_at _ _ _ _ _ f c.loop-i.invariant c.loop-i-test.true most c.place_after.ensures _ c.wire_part-p.ensures) c.depth.ensures c.move_part.ensures
    c.lines-earlier-in-loop-i.ensures

pub offset_bounds-r-place_before : goal.offset_bounds-r-place_before
offset_bounds-r-place_before c =
    let f = fits_told _ _ _ c.loop-head.invariant.turns.fitting in
    omega (arith, c.place_before.ensures, f.most)

pub bounds-r-place_before : goal.bounds-r-place_before
bounds-r-place_before c =
    let f = fits_told _ _ _ c.loop-head.invariant.turns.fitting in
    omega (arith, c.place_before.ensures, f.most)

pub note_answer-requires : goal.note_answer-requires
note_answer-requires c =
    let under = whole_below _ _ (sym c.record_at-record.ensures.result ∙ c.in-Whole.is) in
    omega (arith, under, c.loop-head.invariant.turns.room, c.requires.1)

pub loop-head-smaller : goal.loop-head-smaller
loop-head-smaller c = omega (arith, whole_below _ _ (sym c.record_at-record.ensures.result ∙ c.in-Whole.is))

pub loop-head-preserved : goal.loop-head-preserved
loop-head-preserved c =
    let f = fits_told _ _ _ c.loop-head.invariant.turns.fitting in
    turned_now c.loop-head.invariant c.record_at-record.ensures.result c.in-Whole.is c.read_links-x.ensures (c.number_of-number.ensures ∙ c.refusal.ensures) c.is_stop.ensures
    c.moving_parts-moving.ensures (all_moved _ _ _ _ _ f c.loop-i.invariant c.loop-i-test.false)
    (answer_now _ _ _ _ _ f c.loop-i.invariant _ c.place_before.ensures _ _ c.answer-answer.ensures) c.if-is_stop.false c.note_answer.ensures
    c.note_mark.ensures c.count-accepted.ensures
