use Rattle.std.proofs.Common.{subst}
use Rattle.xa_judge.specs.Following.{Leads}
use Rattle.xa_judge.proofs.foreseen.legal_by.Goals as goal

pub returns-then-branch : goal.returns-then-branch
returns-then-branch c =
    subst (λ moves. Leads c.args.base.now c.args.events.now moves) c.as_slice-2.ensures.value
    (c.in_ok-follows.ensures.0 c.if-branch.true)
