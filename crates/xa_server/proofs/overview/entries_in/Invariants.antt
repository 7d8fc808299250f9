use Rattle.std.proofs.Common.{◌≡◌, ◌++◌, map}
use Rattle.xa_server.specs.Held.{recorded_entry}
use Rattle.xa_server.proofs.overview.entries_in.Given as goal

-- those so far and those in what is left are those in all
abbrev pub invariant-loop-xid : goal.invariant-loop-xid
invariant-loop-xid l = l.branches.items ++ map recorded_entry l.xid-iterator ≡ map recorded_entry l.by_xid.entries
