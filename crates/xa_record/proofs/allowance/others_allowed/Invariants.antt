use Rattle.std.proofs.Common.{◌≡◌, ◌++◌, drop}
use Rattle.xa_record.specs.Allowances.{allowed_for}
use Rattle.xa_record.proofs.allowance.others_allowed.Given as goal

abbrev pub invariant-loop-one : goal.invariant-loop-one
invariant-loop-one l = allowed_for l.allowances l.kind l.number ≡ l.others.items
    ++ allowed_for (drop l.one-index l.allowances) l.kind l.number
