use Rattle.std.proofs.{Common.{None, [], arith}, lemmas.Result.err_from_is_err_and}
use Rattle.xa_xid.specs.declared.statement.Statement.TheVariants.{Disconnect}
use Rattle.xa_coordinator.specs.{Recovery.IsDisconnected, Told.IsUndone, declared.fault.Cause.TheVariants.Session}
use Rattle.xa_coordinator.proofs.{Keeping.{marked, unmarked, at_place, changes_at}, Telling.association_refused}
use Rattle.xa_coordinator.proofs.Adding.{adds_so_many, disconnect_adds, added_next}
use Rattle.xa_coordinator.proofs.coordinator.Coordinator.disconnect.Goals as goal

pub invariant_of-self : goal.invariant_of-self
invariant_of-self g c =
    let me = c.args.self.now in
    let view = g.S.Speak.view in
    let old = c.index_mut.result.now in
    let new = c.let_go.new.session in
    record {
      named = me.named;
      sized = me.sized;
      open_there = unmarked view me.name.items me.stores.items me.branches c.args.store old new
          c.index_mut.ensures.value me.open_there
          (association_refused Disconnect (Session c.in_err-let_go.field-0.0) (view old) (view new)
          (g.met.S.Speak.lawful new) (g.met.S.Speak.own_part old)
          (g.met.S.Speak.own_part new) c.in_err-let_go.ensures.undone);
    }

pub invariant_of-self-2 : goal.invariant_of-self-2
invariant_of-self-2 g c =
    let me = c.args.self.now in
    record {
      named = me.named;
      sized = me.sized;
      open_there =
          marked g.S.Speak.view me.name.items me.stores.items me.branches c.args.store c.let_go.new.session None
          me.open_there (λ branch is. absurd (cc));
    }

pub returns-clause-frame : goal.returns-clause-frame
returns-clause-frame g c = changes_at c.args.self.now.stores.items c.args.store c.let_go.new.session

pub returns-clause-marks : goal.returns-clause-marks
returns-clause-marks g c = changes_at c.args.self.now.branches c.args.store None

pub returns-clause-done : goal.returns-clause-done
returns-clause-done g c =
    at_place g.S.Speak.view c.args.self.now.name.items IsDisconnected c.args.self.now.stores.items c.args.store
    c.index_mut.result.now c.let_go.new.session
    c.index_mut.ensures.value c.in_ok-let_go.ensures.done

pub returns-in_err-let_go-clause-frame : goal.returns-in_err-let_go-clause-frame
returns-in_err-let_go-clause-frame g c = changes_at c.args.self.now.stores.items c.args.store c.let_go.new.session

pub returns-in_err-let_go-clause-undone : goal.returns-in_err-let_go-clause-undone
returns-in_err-let_go-clause-undone g c =
    let p = err_from_is_err_and c.from_residual.result c.from_residual.ensures.1 in
    rw (p.1, p.2)
    (at_place g.S.Speak.view c.args.self.now.name.items
    (IsUndone Disconnect (Session c.in_err-let_go.field-0.0)) c.args.self.now.stores.items c.args.store
    c.index_mut.result.now c.let_go.new.session
    c.index_mut.ensures.value
    c.in_err-let_go.ensures.undone)

pub returns-clause-few : goal.returns-clause-few
returns-clause-few g c =
    added_next g.S.Speak.view c.args.self.now.stores.items c.args.store 1 c.index_mut.result.now c.let_go.new.session
    c.index_mut.ensures.value
    (omega (arith, c.requires)) (disconnect_adds _ _ c.in_ok-let_go.ensures.done)

pub returns-in_err-let_go-clause-few : goal.returns-in_err-let_go-clause-few
returns-in_err-let_go-clause-few g c =
    added_next g.S.Speak.view c.args.self.now.stores.items c.args.store 1 c.index_mut.result.now c.let_go.new.session
    c.index_mut.ensures.value
    (omega (arith, c.requires)) (omega (arith, adds_so_many [] _ _ c.in_err-let_go.ensures.undone.adds))
