use Rattle.xa_audit.{specs.Written.branch_text, proofs.Texts.{each_step, each_end}}
use Rattle.xa_audit.proofs.lines_text.push_branches.Goals as goal

pub loop-branch-preserved : goal.loop-branch-preserved
loop-branch-preserved c =
    each_step branch_text c.args.branches.now c.loop-branch.branch-index c.branch-item.result c.branch-item.result _
    c.loop-branch.text.items
    c.push_branch.new.text.items c.loop-branch-test.true c.branch-item.is c.in_ok-push_branch.ensures
    c.loop-branch.invariant

pub returns : goal.returns
returns c = each_end branch_text c.args.branches.now c.loop-branch.branch-index _ c.loop-branch.text.items
    c.loop-branch-test.false c.loop-branch.invariant
