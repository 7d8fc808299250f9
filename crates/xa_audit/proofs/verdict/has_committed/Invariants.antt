use Rattle.std.{proofs.Common.{◌≡◌, drop}, specs.List.list_any}
use Rattle.xa_audit.specs.Globals.{is_committed}
use Rattle.xa_audit.proofs.verdict.has_committed.Given as goal

abbrev pub invariant-loop-end : goal.invariant-loop-end
invariant-loop-end l = list_any is_committed (drop l.end-index l.ends) ≡ list_any is_committed l.ends
