use Rattle.std.proofs.Common.{ap, sym, ◌∙◌}
use Rattle.xa_server.{specs.Overview.branches_of, proofs.{Held.branches-seen, Outcomes.{if_ok, on_err}}}
use Rattle.xa_server.proofs.server.Server.branch_entries.Goals as goal

pub returns-clause-listed : goal.returns-clause-listed
returns-clause-listed c =
    if_ok c.entries.result c.entries.ensures.listed (λ branches is. is
    ∙ sym (branches-seen c.self.inside.branches c.self.inside.rows) ∙ ap branches_of c.self.view_is)

pub returns-clause-memory : goal.returns-clause-memory
returns-clause-memory c =
    on_err c.entries.result c.entries.ensures.memory
    (λ some none. some (sym (branches-seen c.self.inside.branches c.self.inside.rows)
    ∙ ap branches_of c.self.view_is ∙ none))
