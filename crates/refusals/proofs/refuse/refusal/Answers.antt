use Rattle.std.proofs.Common.{sym, ◌∙◌}
use Rattle.refusals.specs.FreeLaws.{free_taken}
use Rattle.refusals.proofs.refuse.refusal.Goals as goal

pub returns-then-is_free : goal.returns-then-is_free
returns-then-is_free c = sym (free_taken c.args.part c.args.p c.args.s (sym c.is_free.ensures ∙ c.if-is_free.true))
