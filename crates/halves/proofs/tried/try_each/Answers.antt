use Rattle.std.proofs.Common.{refl, arith}
use Rattle.halves.proofs.TriedLaws.{ended_now, turned_now, wide_now}
use Rattle.halves.proofs.tried.try_each.Goals as goal

pub loop-side-init : goal.loop-side-init
loop-side-init c = record { most = omega arith; done = refl }

pub try_one-requires : goal.try_one-requires
try_one-requires c =
    wide_now _ c.args.left c.args.right _ c.loop-side.invariant c.loop-side-test.true c.requires.0 c.requires.1

pub loop-side-preserved : goal.loop-side-preserved
loop-side-preserved c =
    turned_now _ c.args.left c.args.right _ c.loop-side.invariant c.loop-side-test.true c.try_one.ensures

pub returns : goal.returns
returns c =
    rw (ended_now _ c.args.left c.args.right c.args.left c.loop-side.invariant c.loop-side-test.false) refl
