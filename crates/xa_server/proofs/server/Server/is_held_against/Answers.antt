use Rattle.std.proofs.Common.{ap, sym, ◌∙◌}
use Rattle.xa_server.specs.{Locks.is_held_against, Rows.held_against}
use Rattle.xa_server.proofs.Seen
use Rattle.xa_server.proofs.server.Server.is_held_against.Goals as goal

pub returns : goal.returns
returns c =
    c.is_held_against.ensures
    ∙ sym (Seen.held_against-seen c.self.inside.branches c.self.inside.rows c.args.association.now c.args.key.now
    c.self.invariant)
    ∙ ap (λ s. is_held_against s c.args.association.now c.args.key.now) c.self.view_is
