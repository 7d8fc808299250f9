use Rattle.xa_audit.proofs.Groups.{copy_more}
use Rattle.xa_audit.proofs.globals.globals_of.Goals as goal

pub loop-branch-preserved : goal.loop-branch-preserved
loop-branch-preserved c =
    copy_more c.loop-branch.globals c.add.new.globals c.of-name.result c.in_ok-copy.field-0 c.branch-item.result
    c.branch-item.result c.args.branches.now
    c.loop-branch.branch-index c.loop-branch-test.true c.branch-item.is c.of-name.ensures c.in_ok-copy.ensures
    c.in_ok-add.ensures c.loop-branch.invariant
