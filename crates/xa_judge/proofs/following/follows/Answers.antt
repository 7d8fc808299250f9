use Rattle.std.proofs.Common.{sym, ◌∙◌}
use Rattle.xa_judge.proofs.Steps.{some_leads, leads_some}
use Rattle.xa_judge.proofs.following.follows.Goals as goal

pub returns : goal.returns
returns c = (
  λ yes. some_leads c.args.base.now c.args.events.now c.args.moves.now c.in_ok-followed.field-0
      (sym c.is_some.ensures ∙ yes) c.in_ok-followed.ensures.found,
  λ leads. c.is_some.ensures ∙ leads_some c.args.base.now c.args.events.now c.args.moves.now c.in_ok-followed.field-0
      c.in_ok-followed.ensures.missing leads,
)
