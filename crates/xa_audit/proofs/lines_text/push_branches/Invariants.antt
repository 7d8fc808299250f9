use Rattle.std.proofs.Common.{◌≡◌, ◌++◌, drop}
use Rattle.xa_audit.specs.Written.{each_text, branch_text}
use Rattle.xa_audit.proofs.lines_text.push_branches.Given as goal

abbrev pub invariant-loop-branch : goal.invariant-loop-branch
invariant-loop-branch l = l.fn.text.items ++ each_text branch_text l.branches ≡ l.text.items
    ++ each_text branch_text (drop l.branch-index l.branches)
