use Rattle.std.{proofs.Common.{ℕ, List, Option, false, ap, ◌∙◌, subst, arith}, specs.Prelude.{slice_get, IfOk, IfErr}}
use Rattle.xa_xid.specs.{declared.{xid.Xid.Xid, statement.Statement.TheVariants.Recover}, Xid.Text}
use Rattle.xa_session.specs.View.{SessionView}
use Rattle.xa_coordinator.specs.declared.{fault.Cause.TheVariants.Session, branches.OpenBranch.OpenBranch}
use Rattle.xa_coordinator.specs.Recovery.{IsDisconnected, Settled, StopsAmong, IsCutOff, unlisted}
use Rattle.xa_coordinator.{specs.{Stores.{AtStore, ChangesAt}, Told.IsUndone}, proofs.Walk.{at_weaker, changes_then}}
use Rattle.xa_coordinator.proofs.Settling.{listed_finished, unsettled_listed}
use Rattle.xa_coordinator.proofs.coordinator.Coordinator.list_and_finish.Goals as goal

pub settle_each-requires-clause-store : goal.settle_each-requires-clause-store
settle_each-requires-clause-store g c = omega (arith, c.in-Ok.ensures.frame.count, c.requires.store)

pub settle_each-requires-clause-free : goal.settle_each-requires-clause-free
settle_each-requires-clause-free g c =
    ap (λ (list : List (Option OpenBranch)). slice_get list c.args.store) c.in-Ok.ensures.marks ∙ c.requires.free

pub returns-in-Ok-clause-frame : goal.returns-in-Ok-clause-frame
returns-in-Ok-clause-frame g c = changes_then c.args.store _ _ _ c.in-Ok.ensures.frame c.settle_each.ensures.frame

pub returns-in-Ok-clause-marks : goal.returns-in-Ok-clause-marks
returns-in-Ok-clause-marks g c =
    subst (λ (list : List (Option OpenBranch)). ChangesAt c.args.store list c.settle_each.new.self.branches)
    c.in-Ok.ensures.marks c.settle_each.ensures.marks

pub returns-in-Ok-clause-finished : goal.returns-in-Ok-clause-finished
returns-in-Ok-clause-finished g c =
    let me = c.args.self.now in
    listed_finished g.S.Speak.view c.args.decisions.now me.name.items c.args.store c.settle_each.result c.in-Ok.found.0
    c.in-Ok.found.1 me.stores.items
    c.prepared_in.new.self.stores.items c.settle_each.new.self.stores.items
    c.in-Ok.ensures.frame.count c.in-Ok.ensures.listed
    (subst (λ (xids : List Xid). IfOk c.settle_each.result
    (λ tally. AtStore g.S.Speak.view c.args.store
    (λ a b. Settled c.args.decisions.now me.name.items c.args.store a xids tally b) c.prepared_in.new.self.stores.items
    c.settle_each.new.self.stores.items))
    c.as_slice.ensures
    (subst (λ (name : Text). IfOk c.settle_each.result
    (λ tally. AtStore g.S.Speak.view c.args.store
    (λ a b. Settled c.args.decisions.now name.items c.args.store a c.as_slice.result.now tally b)
    c.prepared_in.new.self.stores.items
    c.settle_each.new.self.stores.items))
    c.in-Ok.ensures.name c.settle_each.ensures.settled))

pub returns-in-Ok-clause-broken : goal.returns-in-Ok-clause-broken
returns-in-Ok-clause-broken g c =
    let me = c.args.self.now in
    unsettled_listed g.S.Speak.view c.args.decisions.now me.name.items c.args.store c.settle_each.result c.in-Ok.found.0
    c.in-Ok.found.1 me.stores.items
    c.prepared_in.new.self.stores.items c.settle_each.new.self.stores.items c.in-Ok.ensures.frame.count
    c.in-Ok.ensures.listed
    (subst (λ (xids : List Xid). IfErr c.settle_each.result
    (λ cause. AtStore g.S.Speak.view c.args.store
    (StopsAmong c.args.decisions.now me.name.items c.args.store xids cause) c.prepared_in.new.self.stores.items
    c.settle_each.new.self.stores.items))
    c.as_slice.ensures
    (subst (λ (name : Text). IfErr c.settle_each.result
    (λ cause. AtStore g.S.Speak.view c.args.store
    (StopsAmong c.args.decisions.now name.items c.args.store c.as_slice.result.now cause)
    c.prepared_in.new.self.stores.items
    c.settle_each.new.self.stores.items))
    c.in-Ok.ensures.name c.settle_each.ensures.broken))

pub returns-in-Err-clause-broken : goal.returns-in-Err-clause-broken
returns-in-Err-clause-broken g c =
    let d = c.args.decisions.now in
    let n : List ℕ = c.args.self.now.name.items in
    at_weaker g.S.Speak.view c.args.store (IsUndone (Recover false) (Session c.in-Err.fault))
    (λ freed b. (before : SessionView) → IsDisconnected before freed
    → IsCutOff d n c.args.store before (Session c.in-Err.fault) b)
    (λ freed b undone before disconnected. unlisted freed disconnected c.in-Err.fault b undone)
    c.args.self.now.stores.items c.prepared_in.new.self.stores.items c.in-Err.ensures.undone
