use Rattle.std.proofs.Common.{subst}
use Rattle.xa_judge.specs.Following.{Leads}
use Rattle.xa_judge.proofs.near.legal_behind.Goals as goal

pub returns-then-leads-clause-verdict : goal.returns-then-leads-clause-verdict
returns-then-leads-clause-verdict c =
    subst (λ moves. Leads c.args.base.now c.args.events.now moves) c.as_slice.ensures.value
    (c.in_ok-leads.ensures.0 c.if-leads.true)
