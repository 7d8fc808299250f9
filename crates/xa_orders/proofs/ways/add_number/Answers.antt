use Rattle.std.proofs.Common.{subst}
use Rattle.xa_orders.specs.Found.{IsTurnAdded}
use Rattle.xa_orders.proofs.ways.add_number.Goals as goal

pub returns-in_ok-add_turn-in-Some : goal.returns-in_ok-add_turn-in-Some
returns-in_ok-add_turn-in-Some c =
    subst (λ number. IsTurnAdded c.args.lines.now c.args.way.now number c.args.next.now.items c.add_turn.new.next.items)
    c.in-Some.ensures.number
    c.in_ok-add_turn-in-Some.ensures
