use Rattle.std.proofs.Common.{◌+◌}
use Rattle.xa_orders.proofs.{Differing.wide_next, Levels.level_step}
use Rattle.xa_orders.proofs.ways.next_level.Goals as goal

pub returns-then-spread-clause-wide : goal.returns-then-spread-clause-wide
returns-then-spread-clause-wide c = λ none.
    wide_next c.args.lines.now c.args.ways.now c.add_turns.new.next.items c.as_slice.result.now c.args.limit
    (c.loop-way.way-index + 1)
    (level_step c.args.lines.now c.args.ways.now c.loop-way.next.items c.add_turns.new.next.items c.loop-way.way-index
    c.way-item.result c.loop-way-test.true
    c.way-item.is c.requires c.in_ok-add_turns.ensures c.loop-way.invariant)
    c.as_slice.ensures.value (c.in_ok-spread.ensures c.if-spread.true)

pub loop-way-preserved : goal.loop-way-preserved
loop-way-preserved c =
    level_step c.args.lines.now c.args.ways.now c.loop-way.next.items c.add_turns.new.next.items c.loop-way.way-index
    c.way-item.result c.loop-way-test.true
    c.way-item.is c.requires c.in_ok-add_turns.ensures c.loop-way.invariant
