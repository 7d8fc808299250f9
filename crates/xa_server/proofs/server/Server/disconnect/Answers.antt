use Rattle.std.proofs.Common.{sym, ◌∙◌}
use Rattle.xa_server.proofs.Accepted
use Rattle.xa_server.proofs.server.Server.disconnect.Goals as goal

pub end_branch-requires : goal.end_branch-requires
end_branch-requires c =
    rw (c.copy-own.ensures, c.xid.ensures)
    (Accepted.known_active c.args.self.now c.args.session c.in-Active.own
    (sym c.association.ensures.association ∙ c.in-Active.is))

pub end_branch-requires-in-Idle : goal.end_branch-requires-in-Idle
end_branch-requires-in-Idle c =
    rw (c.copy-own-in-Idle.ensures, c.xid-in-Idle.ensures)
    (Accepted.known_idle c.args.self.now c.args.session c.in-Idle.own
    (sym c.association.ensures.association ∙ c.in-Idle.is))
