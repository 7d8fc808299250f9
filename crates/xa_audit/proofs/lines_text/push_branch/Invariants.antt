use Rattle.std.proofs.Common.{◌≡◌, ◌++◌, drop}
use Rattle.xa_audit.specs.Written.{each_text, life_text}
use Rattle.xa_audit.proofs.lines_text.push_branch.Given as goal

abbrev pub invariant-loop-end : goal.invariant-loop-end
invariant-loop-end l = l.fn.text.items ++ each_text (life_text l.branch) l.ends ≡ l.text.items
    ++ each_text (life_text l.branch) (drop l.end-index l.ends)
