use Rattle.std.proofs.Common.{◌≡◌, ◌++◌, map}
use Rattle.xa_audit.specs.Branches.{branch_in}
use Rattle.xa_audit.proofs.branches.push_branches.Given as goal

abbrev pub invariant-loop-xid : goal.invariant-loop-xid
invariant-loop-xid l =
    l.branches ++ map (branch_in l.store) l.xid-iterator ≡ l.fn.branches ++ map (branch_in l.store) l.lives.entries
