use Rattle.std.proofs.Common.{ap, sym, ◌∙◌}
use Rattle.xa_server.{specs.Tables.prepared_among, proofs.{Outcomes.if_ok, Sorted.prepared-among}}
use Rattle.xa_server.proofs.branch_table.BranchTable.prepared.Goals as goal

pub returns : goal.returns
returns c =
    if_ok c.prepared_in.result c.prepared_in.ensures.listed
    (λ xids is. is ∙ sym (prepared-among c.self.inside.by_xid.entries c.prepared_in.ensures.ordered)
    ∙ ap prepared_among c.self.view_is)
