use Rattle.std.{proofs.Common.{ap, ◌∙◌}, specs.Option.option_map}
use Rattle.xa_server.{specs.declared.branch.BranchRecord.BranchRecord, proofs.Records.get_branch}
use Rattle.xa_server.proofs.branch_table.BranchTable.phase_of.Goals as goal

pub returns-in-Some : goal.returns-in-Some
returns-in-Some c =
    ap (option_map (λ (branch : BranchRecord). branch.phase))
    (c.in-Some.ensures.value ∙ get_branch c.self.inside.by_xid c.args.self.now c.args.xid.now c.self.view_is)

pub returns-in-None : goal.returns-in-None
returns-in-None c =
    ap (option_map (λ (branch : BranchRecord). branch.phase))
    (c.in-None.ensures.value ∙ get_branch c.self.inside.by_xid c.args.self.now c.args.xid.now c.self.view_is)
