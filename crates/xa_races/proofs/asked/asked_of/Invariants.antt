use Rattle.std.proofs.Common.{◌≡◌, map, take}
use Rattle.xa_lines.specs.Printed.{converts}
use Rattle.xa_races.proofs.asked.asked_of.Given as goal

abbrev pub invariant-loop-list : goal.invariant-loop-list
invariant-loop-list l =
    map (λ list. list.items) l.asked.items ≡ map (λ list. map converts list.items) (take l.list-index l.lists)
