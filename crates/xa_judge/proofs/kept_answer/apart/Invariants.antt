use Rattle.std.proofs.Common.{◌≡◌, take}
use Rattle.xa_judge.proofs.kept_answer.apart.Given as goal

-- those before the place
abbrev pub invariant-loop-xid : goal.invariant-loop-xid
invariant-loop-xid l = l.list.items ≡ take l.xid-index l.xids
