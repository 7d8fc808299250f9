use Rattle.xa_orders.specs.{Orders.opening, Found.IsLevel}
use Rattle.xa_orders.proofs.searching.every_way.Given as goal

abbrev pub invariant-loop : goal.invariant-loop
invariant-loop l = IsLevel l.lines (opening l.lines l.fn.server) l.counter l.ways.items
