use Rattle.xa_judge.proofs.ForeseenAdvances.{advance_open}
use Rattle.xa_judge.proofs.foreseen_event.see_open.Goals as goal

pub returns : goal.returns
returns c =
    advance_open c.args.events.now c.args.places.now c.args.later.now c.requires.later.0 c.args.event.now
    c.args.known.items c.in_ok-list.list.items c.requires.later.1 c.requires.fits c.requires.needs
    c.in_ok-list.ensures
