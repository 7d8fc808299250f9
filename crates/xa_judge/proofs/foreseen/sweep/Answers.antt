use Rattle.std.proofs.{Common.{length, subst, arith}, lemmas.List.drop_all}
use Rattle.xa_judge.specs.{Found.Has, Foreseen.{hints_of, GoesOn}}
use Rattle.xa_judge.proofs.foreseen.sweep.Goals as goal

pub returns : goal.returns
returns c = λ front moves end is runs.
    let events = c.args.events.now in
    subst (λ l. GoesOn (hints_of events front.places.items) (Has front.known.items) l end)
    (drop_all (length events) events (omega (arith)))
    (c.in_ok-swept.ensures front end is (c.in_ok-first.ensures events moves end runs))
