use Rattle.std.proofs.{Common.{◌≤◌, ◌+◌, false, [], length, arith}, lemmas.Result.{IfOk-weaker, IfErr-weaker}}
use Rattle.std.specs.Prelude.{slice_set}
use Rattle.xa_xid.specs.declared.statement.Statement.TheVariants.{Recover}
use Rattle.xa_coordinator.specs.{Recovery.ListsPrepared, Stores.AtStore, Told.IsUndone, declared.fault.Cause.Cause}
use Rattle.xa_coordinator.proofs.Keeping.{unmarked, at_place, changes_at}
use Rattle.xa_coordinator.proofs.Adding.{adds_so_many, either_way, added_next}
use Rattle.xa_coordinator.proofs.coordinator.Coordinator.prepared_in.Goals as goal

pub invariant_of-self : goal.invariant_of-self
invariant_of-self g c =
    let me = c.args.self.now in
    record {
      named = me.named;
      sized = me.sized;
      open_there =
          unmarked g.S.Speak.view me.name.items me.stores.items me.branches c.args.store c.index_mut.result.now
          c.list_prepared.new.session
          c.index_mut.ensures.value me.open_there c.list_prepared.ensures.association;
    }

pub returns-clause-frame : goal.returns-clause-frame
returns-clause-frame g c = changes_at c.args.self.now.stores.items c.args.store c.list_prepared.new.session

pub returns-clause-listed : goal.returns-clause-listed
returns-clause-listed g c =
    let me = c.args.self.now in
    let view = g.S.Speak.view in
    let old = c.index_mut.result.now in
    let new = c.list_prepared.new.session in
    IfOk-weaker c.list_prepared.result (λ found. ListsPrepared found.0 found.1 (view old) (view new))
    (λ found. AtStore view c.args.store (ListsPrepared found.0 found.1) me.stores.items
    (slice_set me.stores.items c.args.store new))
    (λ found is. at_place view me.name.items (ListsPrepared found.0 found.1) me.stores.items c.args.store old new
    c.index_mut.ensures.value is)
    c.list_prepared.ensures.listed

pub returns-clause-undone : goal.returns-clause-undone
returns-clause-undone g c =
    let me = c.args.self.now in
    let view = g.S.Speak.view in
    let old = c.index_mut.result.now in
    let new = c.list_prepared.new.session in
    IfErr-weaker c.list_prepared.result (λ fault. IsUndone (Recover false) (Cause.Session fault) (view old) (view new))
    (λ fault. AtStore view c.args.store (IsUndone (Recover false) (Cause.Session fault)) me.stores.items
    (slice_set me.stores.items c.args.store new))
    (λ fault is. at_place view me.name.items (IsUndone (Recover false)
    (Cause.Session fault)) me.stores.items c.args.store old new c.index_mut.ensures.value is)
    c.list_prepared.ensures.undone

pub returns-clause-few : goal.returns-clause-few
returns-clause-few g c =
    let me = c.args.self.now in
    let view = g.S.Speak.view in
    let old = c.index_mut.result.now in
    let new = c.list_prepared.new.session in
    let few : length (view new).known.mine ≤ length (view old).known.mine + 0 =
    either_way (length (view new).known.mine ≤ length (view old).known.mine + 0) c.list_prepared.result
    (λ found. ListsPrepared found.0 found.1 (view old) (view new))
    (λ fault. IsUndone (Recover false) (Cause.Session fault) (view old) (view new))
    (λ found is. adds_so_many [] (view old) (view new) is.adds)
    (λ fault is. adds_so_many [] (view old) (view new) is.adds)
    c.list_prepared.ensures.listed c.list_prepared.ensures.undone in
    omega (
      arith,
      added_next view me.stores.items c.args.store 0 old new c.index_mut.ensures.value
          (omega (arith, c.requires)) few,
    )
