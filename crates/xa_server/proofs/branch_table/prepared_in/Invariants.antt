use Rattle.std.proofs.Common.{◌≡◌, ◌++◌}
use Rattle.xa_server.specs.Tables.{prepared_keys}
use Rattle.xa_server.proofs.branch_table.prepared_in.Given as goal

-- those so far and those in what is left are those in all
abbrev pub invariant-loop-xid : goal.invariant-loop-xid
invariant-loop-xid l = l.xids.items ++ prepared_keys l.xid-iterator ≡ prepared_keys l.by_xid.entries
