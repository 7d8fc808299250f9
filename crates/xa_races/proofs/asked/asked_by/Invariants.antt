use Rattle.std.proofs.Common.{◌≡◌, map, take}
use Rattle.xa_lines.specs.Printed.{converts}
use Rattle.xa_races.proofs.asked.asked_by.Given as goal

abbrev pub invariant-loop-statement : goal.invariant-loop-statement
invariant-loop-statement l = l.asked.items ≡ map converts (take l.statement-index l.statements)
