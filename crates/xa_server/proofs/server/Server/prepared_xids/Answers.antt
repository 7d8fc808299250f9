use Rattle.std.proofs.Common.{ap, sym, ◌∙◌}
use Rattle.xa_server.{specs.State.prepared_xids, proofs.Seen.prepared-seen}
use Rattle.xa_server.proofs.server.Server.prepared_xids.Goals as goal

pub returns : goal.returns
returns c = c.of.ensures ∙ c.in_ok-prepared.ensures ∙ sym (prepared-seen c.self.inside.branches c.self.inside.rows)
    ∙ ap prepared_xids c.self.view_is
