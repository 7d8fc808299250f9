use Rattle.std.proofs.Common.{ap, sym, ◌∙◌}
use Rattle.xa_server.specs.{State.committed_value, Rows.committed_of}
use Rattle.xa_server.proofs.Seen
use Rattle.xa_server.proofs.server.Server.committed_value.Goals as goal

pub returns : goal.returns
returns c =
    c.committed.ensures
    ∙ sym (Seen.committed-seen c.self.inside.branches c.self.inside.rows c.args.key.now)
    ∙ ap (λ s. committed_value s c.args.key.now) c.self.view_is
