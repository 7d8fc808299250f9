use Rattle.std.proofs.Common.{take}
use Rattle.xa_orders.specs.Found.{IsNextOf}
use Rattle.xa_orders.proofs.ways.next_level.Given as goal

abbrev pub invariant-loop-way : goal.invariant-loop-way
invariant-loop-way l = IsNextOf l.lines (take l.way-index l.ways) l.next.items
