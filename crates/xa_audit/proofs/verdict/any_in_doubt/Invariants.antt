use Rattle.std.{proofs.Common.{◌≡◌, drop}, specs.List.list_any}
use Rattle.xa_audit.specs.Globals.{ends_as, is_in_doubt}
use Rattle.xa_audit.proofs.verdict.any_in_doubt.Given as goal

abbrev pub invariant-loop-branch : goal.invariant-loop-branch
invariant-loop-branch l =
    list_any (ends_as is_in_doubt) (drop l.branch-index l.branches) ≡ list_any (ends_as is_in_doubt) l.branches
