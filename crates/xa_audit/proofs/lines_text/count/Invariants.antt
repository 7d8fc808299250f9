use Rattle.std.proofs.Common.{◌≡◌, ◌+◌}
use Rattle.xa_audit.specs.Globals.{count_of}
use Rattle.xa_audit.proofs.lines_text.count.Given as goal

abbrev pub invariant-loop-branches : goal.invariant-loop-branches
invariant-loop-branches l = l.count + count_of l.verdict l.branches-iterator ≡ count_of l.verdict l.globals.entries
