use Rattle.std.{proofs.Common.{inr, subst}, specs.Prelude.IfSome}
use Rattle.xa_orders.specs.Found.{IsTurn}
use Rattle.xa_orders.proofs.ways.add_turn.Goals as goal

pub returns-in_ok-add-in-Some : goal.returns-in_ok-add-in-Some
returns-in_ok-add-in-Some c =
    inr (
      c.in-Some.new,
      subst (λ found. IfSome found (λ new. IsTurn c.args.lines.now c.args.session c.args.way.now new)) c.in-Some.is
          c.in_ok-turned.ensures.turn,
      c.in_ok-add-in-Some.ensures,
    )
