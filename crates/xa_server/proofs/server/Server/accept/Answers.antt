use Rattle.std.proofs.Common.{◌∙◌}
use Rattle.xa_server.proofs.Outcomes.{on_ok}
use Rattle.xa_server.proofs.Accepted
use Rattle.xa_server.proofs.server.Server.accept.Goals as goal

pub returns-clause-ok : goal.returns-clause-ok
returns-clause-ok c =
    on_ok c.carry_out.result c.carry_out.ensures.ok (λ done. done
    ∙ Accepted.after_accepted c.args.self.now c.args.session c.args.statement.now c.requires)

pub returns-clause-memory : goal.returns-clause-memory
returns-clause-memory c =
    Accepted.may_run_out_at c.carry_out.result c.args.self.now c.args.session c.args.statement.now c.requires
    c.carry_out.ensures.enters
    c.carry_out.ensures.memory
