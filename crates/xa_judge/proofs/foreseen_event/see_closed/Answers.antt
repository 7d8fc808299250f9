use Rattle.std.proofs.Common.{◌≡◌, true, length, subst, rules, tests}
use Rattle.xa_judge.{specs.{Foreseen.hints_of, Persistent.AreClosedFor}, proofs.ForeseenAdvances.advance_closed}
use Rattle.xa_judge.proofs.foreseen_event.see_closed.Goals as goal

pub returns : goal.returns
returns c =
    let is_closed : c.in_ok-is_closed.is_closed ≡ true = search (rules, tests) in
    advance_closed c.args.events.now c.args.places.now c.args.later.now c.requires.later.0 c.args.event.now
    c.args.known.items c.close.new.known.items c.in_ok-list.list.items c.requires.later.1 c.requires.fits
    c.in_ok-is_closed.ensures.grows
    (subst (λ r. AreClosedFor (hints_of c.args.events.now c.args.places.now) r (length c.close.new.known.items)
    c.close.new.known.items) c.session_of-session.ensures (c.in_ok-is_closed.ensures.closed is_closed))
    c.in_ok-list.ensures
