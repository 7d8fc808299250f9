use Rattle.std.proofs.Common.{ap, sym, ◌∙◌}
use Rattle.xa_xid.specs.declared.statement.Statement.TheVariants.{Get}
use Rattle.xa_server.specs.{Locks.holds, Step.effect}
use Rattle.xa_server.proofs.Accepted
use Rattle.xa_server.proofs.server.Server.lock_row.Goals as goal

pub returns-then-holds-clause-ok : goal.returns-then-holds-clause-ok
unfolding effect
returns-then-holds-clause-ok c =
    sym (ap (λ association. effect c.args.self.now c.args.session association (Get c.args.key.now))
    (sym c.association.ensures.association ∙ c.in-Active.is)
    ∙ Accepted.locked_again c.args.self.now c.in-Active.own c.args.key.now
    (ap (λ xid. holds c.args.self.now xid c.args.key.now) (sym c.xid.ensures) ∙ sym c.if-holds.ensures))

pub share-requires-clause-known : goal.share-requires-clause-known
share-requires-clause-known c =
    rw c.in_ok-own.ensures
    (Accepted.known_active c.args.self.now c.args.session c.in-Active.own
    (sym c.association.ensures.association ∙ c.in-Active.is))

pub share-requires-clause-unlocked : goal.share-requires-clause-unlocked
share-requires-clause-unlocked c =
    rw c.in_ok-own.ensures
    (Accepted.accepted_get c.args.self.now c.in-Active.own c.args.key.now
    (Accepted.accepted_as c.args.self.now c.args.session _ _
    (sym c.association.ensures.association ∙ c.in-Active.is) c.requires))
