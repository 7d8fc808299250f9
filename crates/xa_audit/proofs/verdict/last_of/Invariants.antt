use Rattle.std.proofs.Common.{◌≡◌, take}
use Rattle.xa_audit.specs.Globals.{last_end}
use Rattle.xa_audit.proofs.verdict.last_of.Given as goal

abbrev pub invariant-loop-end : goal.invariant-loop-end
invariant-loop-end l = l.last ≡ last_end (take l.end-index l.ends)
