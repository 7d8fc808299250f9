use Rattle.std.proofs.Common.{ap, ◌∙◌, subst}
use Rattle.xa_server.{specs.{State.association_of, Locks.LockLaw}, proofs.LockLaws.lock_law}
use Rattle.xa_server.proofs.Seen
use Rattle.xa_server.proofs.server.Server.association.Goals as goal

pub returns-clause-association : goal.returns-clause-association
returns-clause-association c =
    Seen.association-opened c.self.inside.branches c.self.inside.rows c.args.session c.opened.result.now
    c.self.invariant c.opened.ensures.named
    c.opened.ensures.owned
    ∙ ap (λ state. association_of state c.args.session) c.self.view_is

pub returns-clause-lock_law : goal.returns-clause-lock_law
returns-clause-lock_law c =
    subst LockLaw c.self.view_is (lock_law c.self.inside.branches c.self.inside.rows c.self.invariant)
