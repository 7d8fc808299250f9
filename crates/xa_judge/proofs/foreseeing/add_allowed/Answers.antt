use Rattle.xa_judge.{specs.Foreseen.hints_of, proofs.ForeseenGrowth.{extends_more, both_added}}
use Rattle.xa_judge.proofs.foreseeing.add_allowed.Goals as goal

pub returns-clause-grows : goal.returns-clause-grows
returns-clause-grows c =
    extends_more c.args.known.now.items c.add_effect.new.known.items c.add_effect-2.new.known.items
    c.in_ok-add_effect.ensures.grows c.in_ok-add_effect-2.ensures.grows

pub returns-clause-has : goal.returns-clause-has
returns-clause-has c =
    both_added (hints_of c.args.events.now c.args.places.now) c.args.known.now.items c.add_effect.new.known.items
    c.add_effect-2.new.known.items c.args.place c.args.session c.in_ok-add_effect.ensures.grows
    c.in_ok-add_effect-2.ensures.grows c.in_ok-add_effect.ensures.has c.in_ok-add_effect-2.ensures.has
