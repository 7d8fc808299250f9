use Rattle.xa_judge.{specs.Found.config_of, proofs.{Growth.{grows_more, still_there}, Late.adds_more}}
use Rattle.xa_judge.proofs.Loops.{effects_added}
use Rattle.xa_judge.proofs.known.add_effects.Goals as goal

pub returns-clause-grows : goal.returns-clause-grows
returns-clause-grows c =
    grows_more c.args.known.now.items c.add_effect.new.known.items c.add_effect-2.new.known.items
    c.in_ok-add_effect.ensures.grows
    c.in_ok-add_effect-2.ensures.grows

pub returns-clause-has : goal.returns-clause-has
returns-clause-has c =
    effects_added c.args.known.now.items c.add_effect.new.known.items c.add_effect-2.new.known.items c.args.place
    c.args.session
    c.in_ok-add_effect.ensures.grows c.in_ok-add_effect-2.ensures.grows
    c.in_ok-add_effect.ensures.has c.in_ok-add_effect-2.ensures.has

pub returns-clause-only : goal.returns-clause-only
returns-clause-only c = λ one returning at apart unanswered.
    adds_more returning (config_of one) c.args.known.now.items c.add_effect.new.known.items
    c.add_effect-2.new.known.items
    (c.in_ok-add_effect.ensures.only one returning at apart unanswered)
    (c.in_ok-add_effect-2.ensures.only one returning
    (still_there c.args.known.now.items c.add_effect.new.known.items c.args.place one c.in_ok-add_effect.ensures.grows
    at) apart unanswered)
