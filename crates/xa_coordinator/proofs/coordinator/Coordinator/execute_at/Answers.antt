use Rattle.std.proofs.{Common.{[], ◌∷◌, arith}, lemmas.Result.err_from_is_err_and}
use Rattle.xa_coordinator.{specs.Told.{IsDone, IsUndone}, proofs.Telling.association_refused}
use Rattle.xa_coordinator.proofs.Keeping.{marked, unmarked, at_place, changes_at, leaves_association}
use Rattle.xa_coordinator.proofs.Adding.{adds_so_many, added_next}
use Rattle.xa_coordinator.proofs.coordinator.Coordinator.execute_at.Goals as goal

pub invariant_of-self : goal.invariant_of-self
invariant_of-self g c =
    let me = c.args.self.now in
    let view = g.S.Speak.view in
    let old = c.index_mut.result.now in
    let new = c.execute_on.new.session in
    record {
      named = me.named;
      sized = me.sized;
      open_there = unmarked view me.name.items me.stores.items me.branches c.args.store old new
          c.index_mut.ensures.value me.open_there
          (association_refused c.args.statement.now c.in_err-execute_on.field-0.0 (view old) (view new)
          (g.met.S.Speak.lawful new)
          (g.met.S.Speak.own_part old) (g.met.S.Speak.own_part new) c.in_err-execute_on.ensures.says);
    }

pub invariant_of-self-2 : goal.invariant_of-self-2
invariant_of-self-2 g c =
    let me = c.args.self.now in
    let view = g.S.Speak.view in
    let old = c.index_mut.result.now in
    let new = c.execute_on.new.session in
    record {
      named = me.named;
      sized = me.sized;
      open_there = marked view me.name.items me.stores.items me.branches c.args.store new c.args.then me.open_there
          (leaves_association me.name.items c.args.store c.args.statement.now c.args.then (view old)
          (view new) c.requires.leaves (g.met.S.Speak.lawful new)
          (g.met.S.Speak.own_part old) (g.met.S.Speak.own_part new) c.in_ok-execute_on.ensures.says);
    }

pub returns-clause-frame : goal.returns-clause-frame
returns-clause-frame g c = changes_at c.args.self.now.stores.items c.args.store c.execute_on.new.session

pub returns-clause-marks : goal.returns-clause-marks
returns-clause-marks g c = changes_at c.args.self.now.branches c.args.store c.args.then

pub returns-clause-says : goal.returns-clause-says
returns-clause-says g c =
    at_place g.S.Speak.view c.args.self.now.name.items
    (IsDone c.args.statement.now) c.args.self.now.stores.items c.args.store c.index_mut.result.now
    c.execute_on.new.session c.index_mut.ensures.value
    c.in_ok-execute_on.ensures.says

pub returns-in_err-execute_on-clause-frame : goal.returns-in_err-execute_on-clause-frame
returns-in_err-execute_on-clause-frame g c =
    changes_at c.args.self.now.stores.items c.args.store c.execute_on.new.session

pub returns-in_err-execute_on-clause-says : goal.returns-in_err-execute_on-clause-says
returns-in_err-execute_on-clause-says g c =
    let p = err_from_is_err_and c.from_residual.result c.from_residual.ensures.1 in
    rw (p.1, p.2)
    (at_place g.S.Speak.view c.args.self.now.name.items
    (IsUndone c.args.statement.now c.in_err-execute_on.field-0.0) c.args.self.now.stores.items c.args.store
    c.index_mut.result.now c.execute_on.new.session
    c.index_mut.ensures.value c.in_err-execute_on.ensures.says)

pub returns-clause-few : goal.returns-clause-few
returns-clause-few g c =
    added_next g.S.Speak.view c.args.self.now.stores.items c.args.store 1 c.index_mut.result.now
    c.execute_on.new.session c.index_mut.ensures.value
    (omega (arith, c.requires.store))
    (adds_so_many (c.args.statement.now ∷ []) _ _ c.in_ok-execute_on.ensures.says.adds)

pub returns-in_err-execute_on-clause-few : goal.returns-in_err-execute_on-clause-few
returns-in_err-execute_on-clause-few g c =
    added_next g.S.Speak.view c.args.self.now.stores.items c.args.store 1 c.index_mut.result.now
    c.execute_on.new.session c.index_mut.ensures.value
    (omega (arith, c.requires.store)) (omega (arith, adds_so_many [] _ _ c.in_err-execute_on.ensures.says.adds))
