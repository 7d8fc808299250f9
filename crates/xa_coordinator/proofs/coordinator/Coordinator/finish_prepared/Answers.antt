use Rattle.std.{proofs.Common.{List, Option, ap, subst, inl, arith}, specs.Prelude.{IfOk, IfErr, slice_get}}
use Rattle.xa_xid.specs.Xid.{Text}
use Rattle.xa_session.specs.View.{SessionView}
use Rattle.xa_coordinator.{specs.declared.branches.OpenBranch.OpenBranch, proofs.Walk.changes_then}
use Rattle.xa_coordinator.specs.{Recovery.{IsDisconnected, IsFinished, IsCutOff}, Stores.AtStore}
use Rattle.xa_coordinator.proofs.Settling.{freed_finished, breaks_freed}
use Rattle.xa_coordinator.proofs.coordinator.Coordinator.finish_prepared.Goals as goal

pub list_and_finish-requires-clause-store : goal.list_and_finish-requires-clause-store
list_and_finish-requires-clause-store g c = omega (arith, c.in-Ok.ensures.frame.count, c.requires)

pub returns-in-Ok-clause-frame : goal.returns-in-Ok-clause-frame
returns-in-Ok-clause-frame g c = changes_then c.args.store _ _ _ c.in-Ok.ensures.frame c.list_and_finish.ensures.frame

pub returns-in-Ok-clause-marks : goal.returns-in-Ok-clause-marks
returns-in-Ok-clause-marks g c = changes_then c.args.store _ _ _ c.in-Ok.ensures.marks c.list_and_finish.ensures.marks

pub returns-in-Ok-clause-settled : goal.returns-in-Ok-clause-settled
returns-in-Ok-clause-settled g c =
    let me = c.args.self.now in
    freed_finished g.S.Speak.view c.args.decisions.now me.name.items c.args.store c.list_and_finish.result
    me.stores.items c.disconnect.new.self.stores.items
    c.list_and_finish.new.self.stores.items
    c.in-Ok.ensures.frame.count c.in-Ok.ensures.done
    (subst (λ (name : Text). IfOk c.list_and_finish.result
    (λ tally. AtStore g.S.Speak.view c.args.store
    (IsFinished c.args.decisions.now name.items c.args.store tally) c.disconnect.new.self.stores.items
    c.list_and_finish.new.self.stores.items))
    c.in-Ok.ensures.name c.list_and_finish.ensures.finished)

pub returns-in-Ok-clause-broken : goal.returns-in-Ok-clause-broken
returns-in-Ok-clause-broken g c =
    let me = c.args.self.now in
    breaks_freed g.S.Speak.view c.args.decisions.now me.name.items c.args.store c.list_and_finish.result me.branches
    c.list_and_finish.new.self.branches
    me.stores.items c.disconnect.new.self.stores.items c.list_and_finish.new.self.stores.items
    c.in-Ok.ensures.frame.count c.list_and_finish.ensures.free c.in-Ok.ensures.done
    (subst (λ (name : Text). IfErr c.list_and_finish.result
    (λ cause. AtStore g.S.Speak.view c.args.store
    (λ freed b. (before : SessionView) → IsDisconnected before freed
    → IsCutOff c.args.decisions.now name.items c.args.store before cause b)
    c.disconnect.new.self.stores.items c.list_and_finish.new.self.stores.items))
    c.in-Ok.ensures.name c.list_and_finish.ensures.broken)

pub returns-in-Err-clause-broken : goal.returns-in-Err-clause-broken
returns-in-Err-clause-broken g c =
    inl (
      ap (λ (list : List (Option OpenBranch)). slice_get list c.args.store) c.in-Err.ensures.unsaid,
      c.in-Err.ensures.undone,
    )
