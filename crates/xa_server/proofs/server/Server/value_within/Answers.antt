use Rattle.std.proofs.Common.{ap, sym, ◌∙◌}
use Rattle.xa_server.specs.{State.value_within, Rows.value_seen}
use Rattle.xa_server.proofs.Seen
use Rattle.xa_server.proofs.server.Server.value_within.Goals as goal

pub returns : goal.returns
returns c =
    c.value_within.ensures
    ∙ sym (Seen.value_within-seen c.self.inside.branches c.self.inside.rows c.args.own.now c.args.key.now
    c.self.invariant)
    ∙ ap (λ s. value_within s c.args.own.now c.args.key.now) c.self.view_is
