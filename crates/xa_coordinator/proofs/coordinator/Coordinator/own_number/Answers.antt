use Rattle.std.{proofs.{Common.{ℕ, List, subst}, lemmas.List.take_all}, specs.Prelude.All}
use Rattle.xa_xid.specs.Xid.{same_xid}
use Rattle.xa_coordinator.specs.{Branch.branch_xid, Recovery.IsNamed}
use Rattle.xa_coordinator.proofs.Listed.{at_index, any_there, same_branch, none_named_in, none_more}
use Rattle.xa_coordinator.proofs.coordinator.Coordinator.own_number.Goals as goal

pub returns-in-Some-clause-some : goal.returns-in-Some-clause-some
returns-in-Some-clause-some g c =
    let name : List ℕ = c.args.self.now.name.items in
    any_there (same_xid (branch_xid name c.in-Some.number c.args.store)) c.args.xids.now c.loop-xid.xid-index
    c.xid-item.result
    (at_index c.args.xids.now c.loop-xid.xid-index c.xid-item.result c.xid-item.is c.loop-xid-test.true)
    (same_branch name c.in-Some.number c.args.store c.xid-item.result c.in-Some.ensures.some)

pub loop-xid-preserved : goal.loop-xid-preserved
loop-xid-preserved g c =
    none_more c.args.self.now.name.items c.args.store c.args.xids.now c.loop-xid.xid-index c.xid-item.result
    (at_index c.args.xids.now c.loop-xid.xid-index c.xid-item.result c.xid-item.is c.loop-xid-test.true)
    (λ named. c.in_default.ensures.none named.0 named.1) c.loop-xid.invariant

pub returns-clause-none : goal.returns-clause-none
returns-clause-none g c = λ number fits.
    none_named_in c.args.self.now.name.items c.args.store c.args.xids.now
    (subst (All (λ xid. IsNamed c.args.self.now.name.items c.args.store xid → ⊥))
    (take_all c.loop-xid.xid-index c.args.xids.now c.loop-xid-test.false) c.loop-xid.invariant) number fits
