use Rattle.std.{proofs.Common.{◌≡◌, drop}, specs.List.list_any}
use Rattle.xa_audit.specs.Globals.{took}
use Rattle.xa_audit.proofs.verdict.any_took.Given as goal

abbrev pub invariant-loop-branch : goal.invariant-loop-branch
invariant-loop-branch l = list_any took (drop l.branch-index l.branches) ≡ list_any took l.branches
