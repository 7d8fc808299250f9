use Rattle.std.proofs.Common.{◌≡◌, length}
use Rattle.xa_script.proofs.carrying_out.opened_each.Given as goal

abbrev pub invariant-loop-name : goal.invariant-loop-name
invariant-loop-name g l = length l.inputs.items ≡ l.name-index
