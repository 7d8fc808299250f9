use Rattle.std.{proofs.Common.{ap, sym, ◌∙◌, false}, specs.Option.option_map_or}
use Rattle.xa_server.specs.State.{is_prepared, is_prepared_phase}
use Rattle.xa_server.proofs.Seen
use Rattle.xa_server.proofs.server.Server.has_prepared.Goals as goal

pub returns : goal.returns
returns c =
    c.is_prepared.ensures ∙ ap (λ phase. option_map_or is_prepared_phase phase false) c.phase_of.ensures
    ∙ sym (Seen.is_prepared-seen c.self.inside.branches c.self.inside.rows c.args.xid.now)
    ∙ ap (λ s. is_prepared s c.args.xid.now) c.self.view_is
