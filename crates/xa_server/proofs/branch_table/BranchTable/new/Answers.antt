use Rattle.std.proofs.Common.{refl}
use Rattle.xa_xid.proofs.Orders.{xids_total, exact_xids}
use Rattle.xa_server.proofs.{Maps.empty_view, Index.indexed_empty}
use Rattle.xa_server.proofs.branch_table.BranchTable.new.Goals as goal

pub invariant_of-result : goal.invariant_of-result
invariant_of-result c =
    rw (empty_view xids_total exact_xids c.new.result c.new.ensures.empty, c.new-2.ensures.items) (indexed_empty _ refl)
