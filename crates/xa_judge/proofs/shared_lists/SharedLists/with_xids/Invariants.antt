use Rattle.std.proofs.Common.{◌≡◌, take}
use Rattle.xa_judge.proofs.shared_lists.SharedLists.with_xids.Given as goal

-- those before the place
abbrev pub invariant-loop-xid : goal.invariant-loop-xid
invariant-loop-xid l = l.names.items ≡ take l.xid-index l.xids
