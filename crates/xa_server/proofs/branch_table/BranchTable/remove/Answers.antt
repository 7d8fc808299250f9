use Rattle.std.{proofs.Common.{List, ◌≡◌, ℕ, ap, sym, ◌∙◌}, specs.{Prelude.Option, Option.option_map}}
use Rattle.xa_server.specs.declared.branch.BranchRecord.{BranchRecord}
use Rattle.xa_server.proofs.Records.{branches_in, get_branch, removed_in, found_in}
use Rattle.xa_server.proofs.Index.{owner_in, owner_within, indexed_removed, removed_apart}
use Rattle.xa_server.proofs.branch_table.BranchTable.remove.Goals.{in-Some, in_default}
use Rattle.std.specs.FinMap as map
use Rattle.xa_server.proofs.branch_table.BranchTable.remove.Goals as goal

-- the keys that a record lists
keys_in : Option BranchRecord → Option (List (List ℕ))
keys_in found = option_map (λ (branch : BranchRecord). branch.held) found

pub returns-in_err-owner-clause-removed : goal.returns-in_err-owner-clause-removed
returns-in_err-owner-clause-removed c =
    removed_in c.self.inside.by_xid c.remove.new.self c.args.xid.now c.remove.ensures.updates
    ∙ ap (λ m. map.remove m c.args.xid.now) c.self.view_is

pub returns-in_err-owner-clause-held : goal.returns-in_err-owner-clause-held
unfolding keys_in
returns-in_err-owner-clause-held c =
    c.from_residual.ensures ∙ ap keys_in
    (sym c.in_err-owner.was ∙ c.remove.ensures.value ∙ get_branch c.self.inside.by_xid c.args.self.now c.args.xid.now
    c.self.view_is)

pub set_place-requires : goal.set_place-requires
set_place-requires c =
    owner_within c.self.inside.opened.items c.self.inside.nothing
    (branches_in c.self.inside.by_xid) c.in-Some.owner c.args.xid.now
    (ap owner_in (found_in c.self.inside.by_xid c.args.xid.now c.remove.result c.remove.ensures.value
    ∙ c.in_ok-owner.was) ∙ c.in-Some.is) c.self.invariant

pub invariant_of-self-in-Some : goal.invariant_of-self-in-Some
invariant_of-self-in-Some c =
    rw (removed_in c.self.inside.by_xid c.remove.new.self c.args.xid.now c.remove.ensures.updates, c.set_place.ensures)
    (indexed_removed c.self.inside.opened.items c.self.inside.nothing
    (branches_in c.self.inside.by_xid) c.in-Some.owner c.args.xid.now
    (ap owner_in (found_in c.self.inside.by_xid c.args.xid.now c.remove.result c.remove.ensures.value
    ∙ c.in_ok-owner.was) ∙ c.in-Some.is) c.self.invariant)

pub invariant_of-self-in_default : goal.invariant_of-self-in_default
invariant_of-self-in_default c =
    rw (removed_in c.self.inside.by_xid c.remove.new.self c.args.xid.now c.remove.ensures.updates)
    (removed_apart c.self.inside.opened.items c.self.inside.nothing (branches_in c.self.inside.by_xid) c.args.xid.now
    (ap owner_in (found_in c.self.inside.by_xid c.args.xid.now c.remove.result c.remove.ensures.value
    ∙ c.in_ok-owner.was) ∙ c.in_default.is)
    c.self.invariant)

pub returns-clause-removed : goal.returns-clause-removed
returns-clause-removed c =
    let same : branches_in c.remove.new.self ≡ map.remove c.args.self.now c.args.xid.now =
    removed_in c.self.inside.by_xid c.remove.new.self c.args.xid.now c.remove.ensures.updates
    ∙ ap (λ m. map.remove m c.args.xid.now) c.self.view_is in
    elim c.match-owner.branch [ in-Some w ↦ w.self-is ∙ same | in_default w ↦ w.self-is ∙ same ]

pub returns-clause-held : goal.returns-clause-held
unfolding keys_in
returns-clause-held c =
    ap keys_in (sym c.in_ok-owner.was ∙ c.remove.ensures.value
    ∙ get_branch c.self.inside.by_xid c.args.self.now c.args.xid.now c.self.view_is)
