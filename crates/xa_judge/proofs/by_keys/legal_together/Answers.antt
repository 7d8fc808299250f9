use Rattle.std.proofs.Common.{subst}
use Rattle.xa_judge.specs.Following.{Leads}
use Rattle.xa_judge.proofs.by_keys.legal_together.Goals as goal

pub returns-then-branch : goal.returns-then-branch
returns-then-branch c =
    subst (λ moves. Leads c.args.base.now c.args.events.now moves) c.as_slice.ensures.value
    (c.in_ok-follows.ensures.0 c.if-branch.true)
