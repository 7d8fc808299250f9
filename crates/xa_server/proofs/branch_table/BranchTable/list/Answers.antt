use Rattle.std.proofs.Common.{List, ℕ, [], ◌∷◌, ◌++◌, refl, ap, ◌∙◌}
use Rattle.xa_server.specs.{declared.branch.BranchRecord.BranchRecord, Tables.with_record}
use Rattle.xa_server.proofs.{Outcomes.{either_way, on_ok, on_err}, Records.{changed_in, with_record-same}}
use Rattle.xa_server.proofs.Index.{indexed_moved, owner_of-changed, phase_in-changed}
use Rattle.xa_server.proofs.branch_table.BranchTable.list.Goals as goal

-- the branch with one key more
longer : List ℕ → BranchRecord → BranchRecord
longer key branch = record branch { held = branch.held ++ key ∷ [] }

pub invariant_of-self : goal.invariant_of-self
unfolding longer
invariant_of-self c =
    either_way c.list_key.result c.list_key.ensures.ok c.list_key.ensures.err
    (λ ok. rw (changed_in c.self.inside.by_xid c.list_key.new.by_xid c.args.xid.now (longer c.args.key.now) ok)
    (indexed_moved _ _ _ _ (owner_of-changed _ c.args.xid.now (longer c.args.key.now) (λ branch. refl))
    (phase_in-changed _ c.args.xid.now (longer c.args.key.now) (λ branch. refl)) c.self.invariant))
    (λ err. rw (changed_in c.self.inside.by_xid c.list_key.new.by_xid c.args.xid.now (λ branch. branch) err
    ∙ with_record-same _ c.args.xid.now)
    c.self.invariant)

pub returns-clause-ok : goal.returns-clause-ok
unfolding longer
returns-clause-ok c = on_ok c.list_key.result c.list_key.ensures.ok
    (λ ok. changed_in c.self.inside.by_xid c.list_key.new.by_xid c.args.xid.now (longer c.args.key.now) ok
    ∙ ap (λ m. with_record m c.args.xid.now (longer c.args.key.now)) c.self.view_is)

pub returns-clause-err : goal.returns-clause-err
returns-clause-err c = on_err c.list_key.result c.list_key.ensures.err
    (λ err. changed_in c.self.inside.by_xid c.list_key.new.by_xid c.args.xid.now (λ branch. branch) err
    ∙ with_record-same _ c.args.xid.now ∙ c.self.view_is)
