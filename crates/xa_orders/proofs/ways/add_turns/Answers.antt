use Rattle.std.proofs.Common.{◌≡◌, subst, arith}
use Rattle.xa_orders.proofs.Levels.{IsHalfway, halfway_first, halfway_more, halfway_done}
use Rattle.xa_orders.proofs.ways.add_turns.Goals as goal

pub loop-number-init : goal.loop-number-init
loop-number-init c =
    λ front precede next. halfway_first c.args.lines.now front c.args.way.now c.args.next.now.items next

pub loop-number-preserved : goal.loop-number-preserved
loop-number-preserved c = λ front precede next.
    halfway_more c.args.lines.now front c.args.way.now c.loop-number.number c.loop-number.next.items
    (c.loop-number.invariant front precede next)
    c.add_number.new.next.items precede c.in_ok-add_number.ensures

pub returns : goal.returns
returns c = λ front precede next.
    let last : c.loop-number.number ≡ 17 = omega arith in
    halfway_done c.args.lines.now front c.args.way.now c.loop-number.next.items
    (subst (λ n. IsHalfway c.args.lines.now front c.args.way.now n c.loop-number.next.items) last
    (c.loop-number.invariant front precede next))
