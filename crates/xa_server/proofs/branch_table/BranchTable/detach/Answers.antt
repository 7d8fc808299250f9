use Rattle.std.{proofs.Common.{◌≡◌, refl, ap, ◌∙◌, Some, None}, specs.Prelude.MatchOption}
use Rattle.std.specs.BTreeMap.{BTreeMap, Updates}
use Rattle.xa_xid.specs.{Xid.xid_cmp, declared.xid.Xid.Xid}
use Rattle.xa_server.specs.{declared.branch.{BranchRecord.BranchRecord, Phase.TheVariants.Prepared}, Tables.with_record}
use Rattle.xa_server.proofs.Records.{branches_in, changed_in}
use Rattle.xa_server.proofs.Index.{owner_within, indexed_freed, changed_apart, no_owner, tree_owner}
use Rattle.std.specs.BTreeMap as tree
use Rattle.std.specs.FinMap as map
use Rattle.xa_server.proofs.branch_table.BranchTable.detach.Goals as goal

-- the branch, PREPARED and nobody's
detached : BranchRecord → BranchRecord
detached branch = record branch { phase = Prepared; owner = None }

-- the tree once the branch was detached
changed : (old new : BTreeMap Xid BranchRecord) (xid : Xid)
    → MatchOption (tree.get xid_cmp old xid) (new ≡ old) (λ branch. Updates xid_cmp old new xid
    (Some (detached branch)))
    → branches_in new ≡ with_record (branches_in old) xid detached
changed old new xid is = changed_in old new xid detached is

pub set_place-requires : goal.set_place-requires
set_place-requires c =
    owner_within c.self.inside.opened.items c.self.inside.nothing
    (branches_in c.self.inside.by_xid) c.in-Some.owner c.args.xid.now
    (tree_owner c.self.inside.by_xid c.args.xid.now c.set_prepared.result c.set_prepared.ensures.owner
    ∙ c.in-Some.is) c.self.invariant

pub invariant_of-self : goal.invariant_of-self
unfolding detached
invariant_of-self c =
    rw (
      changed c.self.inside.by_xid c.set_prepared.new.by_xid c.args.xid.now c.set_prepared.ensures.changed,
      c.set_place.ensures,
    )
    (indexed_freed c.self.inside.opened.items c.self.inside.nothing
    (branches_in c.self.inside.by_xid) c.in-Some.owner c.args.xid.now
    (tree_owner c.self.inside.by_xid c.args.xid.now c.set_prepared.result c.set_prepared.ensures.owner
    ∙ c.in-Some.is) c.self.invariant
    detached (λ branch. refl))

pub invariant_of-self-in_default : goal.invariant_of-self-in_default
unfolding detached
invariant_of-self-in_default c =
    rw (changed c.self.inside.by_xid c.set_prepared.new.by_xid c.args.xid.now c.set_prepared.ensures.changed)
    (changed_apart c.self.inside.opened.items c.self.inside.nothing (branches_in c.self.inside.by_xid) c.args.xid.now
    (tree_owner c.self.inside.by_xid c.args.xid.now c.set_prepared.result c.set_prepared.ensures.owner
    ∙ c.in_default.is) c.self.invariant
    detached (no_owner detached (λ branch. refl) (map.get (branches_in c.self.inside.by_xid) c.args.xid.now)))

pub returns-in-Some : goal.returns-in-Some
unfolding detached
returns-in-Some c =
    changed c.self.inside.by_xid c.set_prepared.new.by_xid c.args.xid.now c.set_prepared.ensures.changed
    ∙ ap (λ m. with_record m c.args.xid.now detached) c.self.view_is

pub returns-in_default : goal.returns-in_default
unfolding detached
returns-in_default c =
    changed c.self.inside.by_xid c.set_prepared.new.by_xid c.args.xid.now c.set_prepared.ensures.changed
    ∙ ap (λ m. with_record m c.args.xid.now detached) c.self.view_is
