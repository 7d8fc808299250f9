use Rattle.std.proofs.{Common.{◌≡◌, ap, sym, ◌∙◌, Some, arith}, lemmas.Option.slice_get-get_or}
use Rattle.std.{proofs.lemmas.Result.err_from_is_err_and, specs.Prelude.slice_get}
use Rattle.xa_xid.specs.declared.xid.Xid.{Xid}
use Rattle.xa_server.specs.declared.association.Association.TheVariants.{Active}
use Rattle.xa_coordinator.specs.{declared.fault.Cause.TheVariants.Session, OpenBranches.association_seen, Told.IsUndone}
use Rattle.xa_coordinator.specs.{declared.branches.Phase.TheVariants.Active as PhaseActive, Branch.branch_xid}
use Rattle.xa_coordinator.{specs.Work.IsReplied, proofs.{Keeping.{unmarked, at_place, changes_at}, Telling.is_undone}}
use Rattle.xa_coordinator.proofs.Working.{active_there, active_still}
use Rattle.xa_coordinator.proofs.coordinator.Coordinator.execute_row.Goals as goal

pub invariant_of-self : goal.invariant_of-self
invariant_of-self g c =
    let me = c.args.self.now in
    let view = g.S.Speak.view in
    let old = c.index_mut.result.now in
    let new = c.execute.new.self in
    let xid : Xid = branch_xid me.name.items c.args.number c.args.store in
    let there : slice_get me.stores.items c.args.store ≡ Some old =
    slice_get-get_or me.stores.items c.args.store old (omega (arith, c.requires.store))
    ∙ ap Some (sym c.index_mut.ensures.value) in
    let association : association_seen (view old) ≡ Active xid =
    me.open_there c.args.store old (record { number = c.args.number; phase = PhaseActive }) there c.requires.working in
    record {
      named = me.named;
      sized = me.sized;
      open_there = unmarked view me.name.items me.stores.items me.branches c.args.store old new
          c.index_mut.ensures.value me.open_there
          (active_still c.args.statement.now c.execute.result xid (view old) (view new)
          (g.met.S.Speak.lawful new) c.execute.ensures.stays
          (g.met.S.Speak.own_part old) (g.met.S.Speak.own_part new) association c.requires.row
          c.execute.ensures.answered c.execute.ensures.fails c.execute.ensures.lasts c.execute.ensures.takes);
    }

pub returns-clause-frame : goal.returns-clause-frame
returns-clause-frame g c = changes_at c.args.self.now.stores.items c.args.store c.execute.new.self

pub returns-clause-replied : goal.returns-clause-replied
returns-clause-replied g c =
    let me = c.args.self.now in
    let view = g.S.Speak.view in
    let old = c.index_mut.result.now in
    let new = c.execute.new.self in
    let xid : Xid = branch_xid me.name.items c.args.number c.args.store in
    let there : slice_get me.stores.items c.args.store ≡ Some old =
    slice_get-get_or me.stores.items c.args.store old (omega (arith, c.requires.store))
    ∙ ap Some (sym c.index_mut.ensures.value) in
    let association : association_seen (view old) ≡ Active xid =
    me.open_there c.args.store old (record { number = c.args.number; phase = PhaseActive }) there c.requires.working in
    at_place view me.name.items (IsReplied c.args.statement.now c.in_ok-answer.answer.reply xid) me.stores.items
    c.args.store old new c.index_mut.ensures.value
    (record {
      log = c.in_ok-answer.ensures.stays;
      place = c.in_ok-answer.answer.place;
      answered = c.in_ok-answer.ensures.answered;
      active =
          active_there c.args.statement.now c.in_ok-answer.answer xid (view old) (view new)
          (g.met.S.Speak.lawful new) c.in_ok-answer.ensures.stays
          (g.met.S.Speak.own_part old) (g.met.S.Speak.own_part new) association c.in_ok-answer.ensures.answered;
      takes = c.in_ok-answer.ensures.takes;
    })

pub returns-in_err-answer-clause-frame : goal.returns-in_err-answer-clause-frame
returns-in_err-answer-clause-frame g c = changes_at c.args.self.now.stores.items c.args.store c.execute.new.self

pub returns-in_err-answer-clause-undone : goal.returns-in_err-answer-clause-undone
returns-in_err-answer-clause-undone g c =
    let p = err_from_is_err_and c.from_residual.result c.from_residual.ensures.1 in
    rw (p.1, p.2)
    (at_place g.S.Speak.view c.args.self.now.name.items
    (IsUndone c.args.statement.now (Session c.in_err-answer.field-0.0)) c.args.self.now.stores.items c.args.store
    c.index_mut.result.now c.execute.new.self
    c.index_mut.ensures.value
    (is_undone c.args.statement.now (Session c.in_err-answer.field-0.0) _ _ c.in_err-answer.ensures.stays
    (c.in_err-answer.ensures.fails, c.in_err-answer.ensures.lasts, c.in_err-answer.ensures.takes)))
