use Rattle.xa_xid.{specs.Xid.xid_cmp, proofs.Orders.{xids_total, exact_xids, ties_exactly}}
use Rattle.xa_xid.proofs.laws.order_of_xids.Goals as goal

pub returns-clause-ties : goal.returns-clause-ties
returns-clause-ties c =
    ties_exactly xid_cmp xids_total exact_xids c.cmp.result c.args.left.now c.args.right.now (c.cmp.ensures)
