use Rattle.std.proofs.Common.{ap, sym, ◌∙◌, map}
use Rattle.xa_xid.proofs.Orders.{xids_total, exact_xids}
use Rattle.xa_server.{specs.Held.{recorded_entry, recorded_entries}, proofs.Kept.entries-made}
use Rattle.xa_server.proofs.Outcomes.{if_ok, on_err}
use Rattle.xa_server.proofs.branch_table.BranchTable.entries.Goals as goal

pub returns-clause-listed : goal.returns-clause-listed
returns-clause-listed c =
    if_ok c.entries_in.result c.entries_in.ensures.listed
    (λ branches is. is
    ∙ ap (map recorded_entry)
    (sym (entries-made xids_total exact_xids c.self.inside.by_xid.entries c.entries_in.ensures.ordered))
    ∙ ap recorded_entries c.self.view_is)

pub returns-clause-memory : goal.returns-clause-memory
returns-clause-memory c =
    on_err c.entries_in.result c.entries_in.ensures.memory
    (λ some none. some (ap (map recorded_entry)
    (sym (entries-made xids_total exact_xids c.self.inside.by_xid.entries c.entries_in.ensures.ordered))
    ∙ ap recorded_entries c.self.view_is ∙ none))
