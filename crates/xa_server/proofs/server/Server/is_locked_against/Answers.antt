use Rattle.std.proofs.Common.{ap, sym, ◌∙◌}
use Rattle.xa_server.specs.{Locks.is_locked_against, Rows.locked_against}
use Rattle.xa_server.proofs.Seen
use Rattle.xa_server.proofs.server.Server.is_locked_against.Goals as goal

pub returns : goal.returns
returns c =
    c.is_locked_against.ensures
    ∙ sym (Seen.locked_against-seen c.self.inside.branches c.self.inside.rows c.args.association.now c.args.key.now
    c.self.invariant)
    ∙ ap (λ s. is_locked_against s c.args.association.now c.args.key.now) c.self.view_is
