use Rattle.std.{proofs.Common.{◌≡◌, ℕ, [], refl, ap, sym, ◌∙◌, Some}, specs.Option.option_and_then}
use Rattle.xa_xid.proofs.Orders.{xids_total, exact_xids}
use Rattle.xa_server.specs.{declared.branch.{BranchRecord.BranchRecord, Phase.TheVariants.Active}, Tables.owner_of}
use Rattle.xa_server.proofs.{Maps.one_set, Records.branches_in, Index.{indexed_started, indexed_grown}}
use Rattle.std.specs.FinMap as map
use Rattle.xa_server.proofs.branch_table.BranchTable.start.Goals as goal

-- the branch that starts
fresh : ℕ → BranchRecord
fresh session = record { phase = Active; owner = Some session; held = [] }

inserted : (c : goal.After-set_place)
    → branches_in c.insert.new.self ≡ map.insert (branches_in c.self.inside.by_xid) c.args.xid.now
    (fresh c.args.session)
unfolding fresh
inserted c =
    rw (← c.copy.ensures, ← c.new.ensures)
    (one_set xids_total exact_xids c.self.inside.by_xid c.insert.new.self c.copy.result _
    c.in_ok-insert.ensures.updates)

pub invariant_of-self : goal.invariant_of-self
invariant_of-self c =
    indexed_grown c.self.inside.opened.items c.make_place.new.opened.items c.self.inside.nothing
    (branches_in c.self.inside.by_xid)
    c.make_place.ensures.same c.self.invariant

pub invariant_of-self-2 : goal.invariant_of-self-2
unfolding fresh
invariant_of-self-2 c =
    rw (c.set_place.ensures, c.in_ok-own.ensures, inserted c)
    (indexed_started c.make_place.new.opened.items c.self.inside.nothing
    (branches_in c.self.inside.by_xid) c.args.session c.args.xid.now
    (fresh c.args.session) c.in_ok-make_place.ensures.there
    (ap (option_and_then (λ (branch : BranchRecord). branch.owner))
    (ap (λ m. map.get m c.args.xid.now) c.self.view_is ∙ c.requires.unknown))
    (λ other is. c.requires.free other (ap (λ m. owner_of m other) (sym c.self.view_is) ∙ is))
    refl refl
    (indexed_grown c.self.inside.opened.items c.make_place.new.opened.items c.self.inside.nothing
    (branches_in c.self.inside.by_xid)
    c.make_place.ensures.same c.self.invariant))

pub returns-clause-ok : goal.returns-clause-ok
unfolding fresh
returns-clause-ok c = inserted c ∙ ap (λ m. map.insert m c.args.xid.now (fresh c.args.session)) c.self.view_is
