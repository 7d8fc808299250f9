use Rattle.std.proofs.Common.{◌≡◌, refl, ap, ◌∙◌}
use Rattle.xa_server.specs.declared.branch.{BranchRecord.BranchRecord, Phase.TheVariants.Idle}
use Rattle.xa_server.specs.declared.association.Association.TheVariants.{Idle as IdleAt}
use Rattle.xa_server.{specs.Tables.{with_record, idle_of, opened_at}, proofs.Records.{branches_in, changed_in}}
use Rattle.xa_server.proofs.Index.{owner_within, indexed_idle, ended_named, changed_apart, same_owner, tree_owner}
use Rattle.std.specs.FinMap as map
use Rattle.xa_server.proofs.branch_table.BranchTable.end_work.Goals as goal

-- the branch, IDLE
idle : BranchRecord → BranchRecord
idle branch = record branch { phase = Idle }

pub end_place-requires : goal.end_place-requires
end_place-requires c =
    owner_within c.self.inside.opened.items c.self.inside.nothing
    (branches_in c.self.inside.by_xid) c.in-Some.owner c.args.xid.now
    (tree_owner c.self.inside.by_xid c.args.xid.now c.set_idle.result c.set_idle.ensures.owner
    ∙ c.in-Some.is) c.self.invariant

-- what the owner has open, IDLE
open_idle : (c : goal.After-end_place)
    → idle_of (opened_at c.self.inside.opened.items c.in-Some.owner) ≡ IdleAt c.args.xid.now
open_idle c =
    ended_named (opened_at c.self.inside.opened.items c.in-Some.owner) c.args.xid.now
    (c.self.invariant.listed c.in-Some.owner c.args.xid.now
    (tree_owner c.self.inside.by_xid c.args.xid.now c.set_idle.result c.set_idle.ensures.owner ∙ c.in-Some.is))

pub invariant_of-self : goal.invariant_of-self
unfolding idle
invariant_of-self c =
    rw (
      changed_in c.self.inside.by_xid c.set_idle.new.by_xid c.args.xid.now idle c.set_idle.ensures.changed,
      c.end_place.ensures,
      open_idle c,
    )
    (indexed_idle c.self.inside.opened.items c.self.inside.nothing
    (branches_in c.self.inside.by_xid) c.in-Some.owner c.args.xid.now
    (tree_owner c.self.inside.by_xid c.args.xid.now c.set_idle.result c.set_idle.ensures.owner
    ∙ c.in-Some.is) c.self.invariant
    idle (λ branch. refl) (λ branch. refl))

pub invariant_of-self-in_default : goal.invariant_of-self-in_default
unfolding idle
invariant_of-self-in_default c =
    let nobodys = tree_owner c.self.inside.by_xid c.args.xid.now c.set_idle.result c.set_idle.ensures.owner
    ∙ c.in_default.is in
    rw (changed_in c.self.inside.by_xid c.set_idle.new.by_xid c.args.xid.now idle c.set_idle.ensures.changed)
    (changed_apart c.self.inside.opened.items c.self.inside.nothing
    (branches_in c.self.inside.by_xid) c.args.xid.now nobodys c.self.invariant idle
    (same_owner idle (λ branch. refl) (map.get (branches_in c.self.inside.by_xid) c.args.xid.now) ∙ nobodys))

pub returns-in-Some : goal.returns-in-Some
unfolding idle
returns-in-Some c =
    changed_in c.self.inside.by_xid c.set_idle.new.by_xid c.args.xid.now idle c.set_idle.ensures.changed
    ∙ ap (λ m. with_record m c.args.xid.now idle) c.self.view_is

pub returns-in_default : goal.returns-in_default
unfolding idle
returns-in_default c =
    changed_in c.self.inside.by_xid c.set_idle.new.by_xid c.args.xid.now idle c.set_idle.ensures.changed
    ∙ ap (λ m. with_record m c.args.xid.now idle) c.self.view_is
