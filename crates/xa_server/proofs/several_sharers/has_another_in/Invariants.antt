use Rattle.std.{proofs.Common.◌≡◌, specs.List.list_any}
use Rattle.xa_server.specs.Locks.{is_another}
use Rattle.xa_server.proofs.several_sharers.has_another_in.Given as goal

-- whether one of those in what is left is another's is whether one of all is
abbrev pub invariant-loop-xid : goal.invariant-loop-xid
invariant-loop-xid l =
    list_any (is_another l.association) l.xid-iterator ≡ list_any (is_another l.association) l.many.keys
