use Rattle.std.proofs.Common.{◌∙◌}
use Rattle.xa_orders.proofs.Places.{next_is}
use Rattle.xa_orders.proofs.answers.next_place.Goals as goal

pub returns-clause-place : goal.returns-clause-place
returns-clause-place c = c.first_left.ensures.place ∙ next_is c.args.session c.args.lines.now c.args.texts.now
