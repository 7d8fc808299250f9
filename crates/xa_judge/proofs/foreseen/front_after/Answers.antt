use Rattle.xa_judge.{specs.Foreseen.hints_of, proofs.ForeseenAdvances.all_after}
use Rattle.xa_judge.proofs.foreseen.front_after.Goals as goal

pub returns-in_ok-closed-in-Kept : goal.returns-in_ok-closed-in-Kept
returns-in_ok-closed-in-Kept c =
    let events = c.args.events.now in
    let front = c.in-Kept.front in
    all_after c.args.base.now events c.args.session (hints_of events front.places.items) front.known.items
    c.in_ok-closed-in-Kept.closed
    (λ moves end runs. c.in_ok-sweep.ensures front moves end c.in-Kept.is runs) c.in_ok-closed-in-Kept.ensures
