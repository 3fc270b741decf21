use Rattle.std.proofs.Common.{◌≡◌, length, rules}
use Rattle.rows.proofs.JudgeLaws.{judged_all, judged_now, judging, wired_at}
use Rattle.rows.proofs.judging.refusal.Goals as goal

pub loop-i-init : goal.loop-i-init
loop-i-init c =
    let a = c.args in
    let eight : length a.row.states ≡ 8 = search rules in
    judging a.part a.x a.row eight _ c.lines-earlier.ensures

pub loop-i-preserved : goal.loop-i-preserved
loop-i-preserved c =
    let a = c.args in
    let eight : length a.row.states ≡ 8 = search rules in
    let j = c.loop-i.invariant in
    let below = c.loop-i-test.true in
    judged_now a.part a.x a.row eight j below c.requires _
    (wired_at a.part a.x a.row eight j below c.requires c.place_after.ensures _ c.wire_part-p.ensures)
    c.refusal.ensures c.least-least.ensures c.lines-earlier-in-loop-i.ensures

pub returns : goal.returns
returns c =
    let a = c.args in
    let eight : length a.row.states ≡ 8 = search rules in
    judged_all a.part a.x a.row eight c.loop-i.invariant c.loop-i-test.false c.refusal-2.ensures
