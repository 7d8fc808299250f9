use Rattle.std.{proofs.Common.◌≡◌, specs.List.list_all}
use Rattle.std.specs.FinSet as set
use Rattle.xa_server.proofs.several_sharers.has_all_in.Given as goal

-- whether all that is left is here is whether all is
abbrev pub invariant-loop-xid : goal.invariant-loop-xid
invariant-loop-xid l = list_all (set.contains l.sharers) l.xid-iterator ≡ list_all (set.contains l.sharers) l.many.keys
