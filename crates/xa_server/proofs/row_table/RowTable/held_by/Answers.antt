use Rattle.std.{proofs.Common.{ap, ◌∙◌}, specs.FinMap.entries}
use Rattle.xa_server.{specs.Held.held_among, proofs.{Layers.held_listed, Outcomes.{if_ok, on_err}}}
use Rattle.xa_server.proofs.row_table.RowTable.held_by.Goals as goal

pub returns-clause-listed : goal.returns-clause-listed
returns-clause-listed c =
    if_ok c.held_in.result c.held_in.ensures.listed
    (λ rows is. is
    ∙ held_listed c.args.xid.now c.self.inside.recent c.self.inside.runs c.held_in.ensures.ordered
    ∙ ap (λ records. held_among c.args.xid.now (entries records)) c.self.view_is)

pub returns-clause-memory : goal.returns-clause-memory
returns-clause-memory c =
    on_err c.held_in.result c.held_in.ensures.memory
    (λ some none. some (held_listed c.args.xid.now c.self.inside.recent c.self.inside.runs c.held_in.ensures.ordered
    ∙ ap (λ records. held_among c.args.xid.now (entries records)) c.self.view_is ∙ none))
