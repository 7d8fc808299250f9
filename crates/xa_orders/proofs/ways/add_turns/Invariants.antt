use Rattle.std.proofs.Common.{List}
use Rattle.xa_orders.{specs.{declared.way.Way.Way, Found.{AllPrecede, IsNextOf}}, proofs.Levels.IsHalfway}
use Rattle.xa_orders.proofs.ways.add_turns.Given as goal

abbrev pub invariant-loop-number : goal.invariant-loop-number
invariant-loop-number l =
    (front : List Way) → AllPrecede front l.way → IsNextOf l.lines front l.initial.next.items
    → IsHalfway l.lines front l.way l.number l.next.items
