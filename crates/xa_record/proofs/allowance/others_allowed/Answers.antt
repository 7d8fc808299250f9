use Rattle.std.proofs.Common.{arith}
use Rattle.xa_record.proofs.AllowanceLists.{allowed_for-next, allowed_for-whole}
use Rattle.xa_record.proofs.allowance.others_allowed.Goals as goal

pub loop-one-preserved : goal.loop-one-preserved
loop-one-preserved c =
    allowed_for-next c.args.allowances.now c.args.kind c.args.number _ c.loop-one.others.items
    c.push_allowed.new.others.items c.loop-one.one-index _
    c.loop-one-test.true c.loop-one.invariant c.in_ok-push_allowed.ensures

pub returns : goal.returns
returns c =
    allowed_for-whole c.args.allowances.now c.args.kind c.args.number _ c.loop-one.others.items c.loop-one.one-index
    (omega (arith, c.loop-one-test.false, c.loop-one.auto.one-index-end)) c.loop-one.invariant
