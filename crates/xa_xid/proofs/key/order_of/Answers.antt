use Rattle.std.proofs.Common.{arith, sym}
use Rattle.xa_xid.proofs.Heads.{head_less, head_greater}
use Rattle.xa_xid.proofs.key.order_of.Goals as goal

pub returns-then-left_head-right_head : goal.returns-then-left_head-right_head
returns-then-left_head-right_head c =
    sym (head_less c.args.left.now c.args.right.now (λ i. omega (arith, c.type_inv.left i))
    (λ i. omega (arith, c.type_inv.right i))
    (omega (arith, c.if-left_head-right_head.true, c.requires.left, c.requires.right)))

pub returns-then-right_head-left_head : goal.returns-then-right_head-left_head
returns-then-right_head-left_head c =
    sym (head_greater c.args.left.now c.args.right.now (λ i. omega (arith, c.type_inv.left i))
    (λ i. omega (arith, c.type_inv.right i))
    (omega (arith, c.if-right_head-left_head.true, c.requires.left, c.requires.right)))
