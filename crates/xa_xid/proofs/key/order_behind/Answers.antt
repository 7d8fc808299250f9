use Rattle.std.proofs.Common.{sym, ◌∙◌, inl, inr, arith}
use Rattle.xa_xid.proofs.Heads.{head_level, head_beyond, rest_level}
use Rattle.xa_xid.proofs.key.order_behind.Goals as goal

pub returns-then-left-le8 : goal.returns-then-left-le8
returns-then-left-le8 c =
    c.cmp.ensures
    ∙ sym (head_level c.args.left.now c.args.right.now c.are_bytes.ensures c.are_bytes-2.ensures c.requires
    (inl (omega (arith, c.if-left-le8.true))))

pub returns-then-right-le8 : goal.returns-then-right-le8
returns-then-right-le8 c =
    c.cmp-then-right-le8.ensures
    ∙ sym (head_level c.args.left.now c.args.right.now c.are_bytes.ensures c.are_bytes-2.ensures c.requires
    (inr (omega (arith, c.if-right-le8.true))))

pub loop-place-init : goal.loop-place-init
loop-place-init c = (
  omega arith,
  omega (arith, c.if-left-le8.false, c.if-right-le8.false),
  sym (head_beyond c.args.left.now c.args.right.now c.are_bytes.ensures c.are_bytes-2.ensures c.requires
      (omega (arith, c.if-left-le8.false)) (omega (arith, c.if-right-le8.false))),
)

pub returns : goal.returns
returns c =
    let inv = c.loop-place.invariant in
    c.cmp-2.ensures
    ∙ sym (rest_level c.loop-place.place c.args.left.now c.args.right.now
    (omega (arith, inv.0, inv.1, c.loop-place-test.false)))
    ∙ inv.2
