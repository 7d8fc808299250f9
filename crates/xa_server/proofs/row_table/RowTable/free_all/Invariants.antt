use Rattle.std.proofs.Common.{length}
use Rattle.xa_server.proofs.Freeing.{IsFreed}
use Rattle.xa_server.proofs.row_table.RowTable.free_all.Given as goal

abbrev pub invariant-loop-key : goal.invariant-loop-key
invariant-loop-key l = IsFreed l.commits l.xid l.fn.keys l.keys l.fn.self l.self

abbrev pub decreases-loop-key : goal.decreases-loop-key
decreases-loop-key l = length l.keys
