use Rattle.std.proofs.Common.{sym, ◌∙◌}
use Rattle.chain_runs.specs.TestLaws.{by_few, by_known, by_unknown}
use Rattle.chain_runs.proofs.testing.test.Goals as goal

pub returns-in_default : goal.returns-in_default
returns-in_default c = sym (by_unknown _ _ _ _ c.look_up-looked_up.ensures c.in_default.is)

pub returns-then-is_several : goal.returns-then-is_several
returns-then-is_several c =
    c.test_known.ensures ∙ sym (by_known _ _ _ _ c.look_up-looked_up.ensures c.in-Some.is (sym c.is_several.ensures ∙ c.if-is_several.true))

pub returns-else-is_several : goal.returns-else-is_several
returns-else-is_several c = sym (by_few _ _ _ _ c.look_up-looked_up.ensures c.in-Some.is (sym c.is_several.ensures ∙ c.if-is_several.false))
