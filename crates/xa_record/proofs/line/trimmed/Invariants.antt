use Rattle.std.proofs.Common.{◌≡◌, length}
use Rattle.xa_record.specs.Lines.{trimmed}
use Rattle.xa_record.proofs.line.trimmed.Given as goal

abbrev pub invariant-loop-last : goal.invariant-loop-last
invariant-loop-last l = trimmed l.text ≡ trimmed l.rest

abbrev pub decreases-loop-last : goal.decreases-loop-last
decreases-loop-last l = length l.rest
