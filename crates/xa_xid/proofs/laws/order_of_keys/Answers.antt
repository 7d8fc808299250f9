use Rattle.xa_xid.{specs.Xid.bytes_cmp, proofs.Orders.{bytes_total, exact_texts, ties_exactly}}
use Rattle.xa_xid.proofs.laws.order_of_keys.Goals as goal

pub returns-clause-ties : goal.returns-clause-ties
returns-clause-ties c = ties_exactly bytes_cmp bytes_total exact_texts c.cmp.result c.args.left_key.now
    c.args.right_key.now (c.cmp.ensures)
