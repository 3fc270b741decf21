use Rattle.std.proofs.Common.{ap, rules, sym, ◌≡◌, ◌∙◌}
use Rattle.buffers.specs.Verdict.{in_numbers, number_of}
use Rattle.refusal_kinds.specs.Numbers.{code_of, number}
use Rattle.fifo_c.proofs.Laws.{calls_refused, calls_worked, work_may}
use Rattle.fifo_c.proofs.call.sample.Goals as goal

pub returns-in_err-known : goal.returns-in_err-known
returns-in_err-known c =
    let a = c.args in
    let told : code_of c.from_residual.result ≡ number c.in_err-known.field-0.0 = search rules in
    calls_refused a.part a.«record».now a.state.now a.memory.now a.answer.now c.judge.ensures (ap in_numbers c.in_err-known.was) (told ∙ sym (ap number_of (ap in_numbers c.in_err-known.was)))

pub work-requires : goal.work-requires
work-requires c =
    let a = c.args in
    work_may a.part a.«record».now a.state.now a.memory.now a.answer.now c.judge.ensures (ap in_numbers c.in_ok-known.was)

pub returns : goal.returns
returns c =
    let a = c.args in
    calls_worked a.part a.«record».now a.state.now a.memory.now a.answer.now c.judge.ensures (ap in_numbers c.in_ok-known.was) c.work.ensures
