use Rattle.std.proofs.Common.{◌≡◌, ◌++◌, drop}
use Rattle.xa_audit.{specs.Written.{each_json, branch_json}, proofs.Texts.lead}
use Rattle.xa_audit.proofs.json_text.push_branches.Given as goal

abbrev pub invariant-loop-branch : goal.invariant-loop-branch
invariant-loop-branch l =
    l.fn.text.items ++ each_json branch_json l.branches
    ≡ (l.text.items ++ lead l.first (drop l.branch-index l.branches))
    ++ each_json branch_json (drop l.branch-index l.branches)
