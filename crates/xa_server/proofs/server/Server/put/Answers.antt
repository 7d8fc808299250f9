use Rattle.std.proofs.Common.{sym, ◌∙◌}
use Rattle.xa_server.proofs.Accepted
use Rattle.xa_server.proofs.server.Server.put.Goals as goal

pub put_row-requires : goal.put_row-requires
put_row-requires c =
    Accepted.accepted_put_free c.args.self.now c.args.key.now c.args.value.now
    (Accepted.accepted_as c.args.self.now c.args.session _ _
    (sym c.association.ensures.association ∙ c.in-Free.is) c.requires)

pub hold-requires-clause-known : goal.hold-requires-clause-known
hold-requires-clause-known c =
    rw c.in_ok-own-in-Active.ensures
    (Accepted.known_active c.args.self.now c.args.session c.in-Active.own
    (sym c.association.ensures.association ∙ c.in-Active.is))

pub hold-requires-clause-unheld : goal.hold-requires-clause-unheld
hold-requires-clause-unheld c =
    rw c.in_ok-own-in-Active.ensures
    (Accepted.accepted_put c.args.self.now c.in-Active.own c.args.key.now c.args.value.now
    (Accepted.accepted_as c.args.self.now c.args.session _ _
    (sym c.association.ensures.association ∙ c.in-Active.is) c.requires))
