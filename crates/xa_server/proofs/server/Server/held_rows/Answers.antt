use Rattle.std.proofs.Common.{ap, sym, ◌∙◌}
use Rattle.xa_server.{specs.{Overview.rows_of, State.is_known}, proofs.{Held.rows_of-seen, Outcomes.{if_ok, on_err}}}
use Rattle.xa_server.proofs.server.Server.held_rows.Goals as goal

pub returns-clause-listed : goal.returns-clause-listed
returns-clause-listed c =
    if_ok c.held_by.result c.held_by.ensures.listed
    (λ rows is. is ∙ sym (rows_of-seen c.self.inside.branches c.self.inside.rows c.args.xid.now
    (ap (λ state. is_known state c.args.xid.now) c.self.view_is ∙ c.requires))
    ∙ ap (λ state. rows_of state c.args.xid.now) c.self.view_is)

pub returns-clause-memory : goal.returns-clause-memory
returns-clause-memory c =
    on_err c.held_by.result c.held_by.ensures.memory
    (λ some none. some (sym (rows_of-seen c.self.inside.branches c.self.inside.rows c.args.xid.now
    (ap (λ state. is_known state c.args.xid.now) c.self.view_is ∙ c.requires))
    ∙ ap (λ state. rows_of state c.args.xid.now) c.self.view_is ∙ none))
