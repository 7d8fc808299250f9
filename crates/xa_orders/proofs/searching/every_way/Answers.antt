use Rattle.xa_orders.{specs.Orders.opening, proofs.Levels.{wide_level, level_found, level_opening}}
use Rattle.xa_orders.proofs.searching.every_way.Goals as goal

pub returns-in-None-clause-wide : goal.returns-in-None-clause-wide
returns-in-None-clause-wide c = λ none.
    wide_level c.args.lines.now (opening c.args.lines.now c.args.server) c.loop.counter c.args.limit c.loop.ways.items
    c.as_slice.result.now
    c.loop.invariant c.as_slice.ensures.value (c.in_ok-next_level.ensures.wide c.in-None.is)

pub loop-preserved : goal.loop-preserved
loop-preserved c =
    level_found c.args.lines.now (opening c.args.lines.now c.args.server) c.loop.counter c.loop.ways.items
    c.as_slice.result.now c.in_ok-next_level.field-0
    c.in-Some.next c.loop.invariant c.as_slice.ensures.value c.in-Some.is c.in_ok-next_level.ensures.next

pub loop-init : goal.loop-init
loop-init c = level_opening c.args.lines.now c.args.server c.in_ok-ways.ways.items c.in_ok-ways.ensures
