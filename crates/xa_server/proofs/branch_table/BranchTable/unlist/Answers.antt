use Rattle.std.proofs.Common.{refl, ap, ◌∙◌}
use Rattle.xa_server.specs.{declared.branch.BranchRecord.BranchRecord, Tables.{with_record, without_last}}
use Rattle.xa_server.proofs.{Records.changed_in, Index.{indexed_moved, owner_of-changed, phase_in-changed}}
use Rattle.xa_server.proofs.branch_table.BranchTable.unlist.Goals as goal

-- the branch without its last key
shorter : BranchRecord → BranchRecord
shorter branch = record branch { held = without_last branch.held }

pub invariant_of-self : goal.invariant_of-self
unfolding shorter
invariant_of-self c =
    rw (changed_in c.self.inside.by_xid c.unlist_key.new.by_xid c.args.xid.now shorter c.unlist_key.ensures)
    (indexed_moved _ _ _ _ (owner_of-changed _ c.args.xid.now shorter (λ branch. refl))
    (phase_in-changed _ c.args.xid.now shorter (λ branch. refl)) c.self.invariant)

pub returns : goal.returns
unfolding shorter
returns c =
    changed_in c.self.inside.by_xid c.unlist_key.new.by_xid c.args.xid.now shorter c.unlist_key.ensures
    ∙ ap (λ m. with_record m c.args.xid.now shorter) c.self.view_is
