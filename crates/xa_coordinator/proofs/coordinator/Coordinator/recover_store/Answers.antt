use Rattle.std.proofs.{Common.{ℕ, List, sym, subst, arith}, lemmas.Result.err_from_is_err_and}
use Rattle.xa_xid.specs.Xid.{Text}
use Rattle.xa_coordinator.specs.Recovery.{IsSettled, IsClear, IsRecovered, BreaksHere}
use Rattle.xa_coordinator.specs.{declared.fault.RecoverFault.RecoverFault, Stores.AtStore}
use Rattle.xa_coordinator.proofs.{Walk.{at_then, changes_then}, Recovering.breaks_by}
use Rattle.xa_coordinator.proofs.coordinator.Coordinator.recover_store.Goals as goal

pub look_again-requires-clause-store : goal.look_again-requires-clause-store
look_again-requires-clause-store g c = omega (arith, c.in-Ok.ensures.frame.count, c.requires)

pub returns-in_ok-front-in-Ok-clause-frame : goal.returns-in_ok-front-in-Ok-clause-frame
returns-in_ok-front-in-Ok-clause-frame g c =
    changes_then c.args.store c.args.self.now.stores.items c.finish_prepared.new.self.stores.items
    c.look_again.new.self.stores.items c.in-Ok.ensures.frame
    c.in_ok-front-in-Ok.ensures.frame

pub returns-in_err-front-in-Ok-clause-frame : goal.returns-in_err-front-in-Ok-clause-frame
returns-in_err-front-in-Ok-clause-frame g c =
    changes_then c.args.store c.args.self.now.stores.items c.finish_prepared.new.self.stores.items
    c.look_again.new.self.stores.items c.in-Ok.ensures.frame
    c.in_err-front-in-Ok.ensures.frame

pub returns-in_ok-front-in-Ok-clause-recovered : goal.returns-in_ok-front-in-Ok-clause-recovered
returns-in_ok-front-in-Ok-clause-recovered g c =
    let me = c.args.self.now in
    let view = g.S.Speak.view in
    let d = c.args.decisions.now in
    let n : List ℕ = me.name.items in
    at_then view c.args.store (IsSettled d n c.args.store c.in-Ok.tally)
    (IsClear n c.args.store c.in_ok-front-in-Ok.front)
    (IsRecovered d n c.args.store c.in-Ok.tally c.in_ok-front-in-Ok.front)
    (λ a m b settled clear. record { finished = m; settled = settled; clear = clear })
    me.stores.items c.finish_prepared.new.self.stores.items c.look_again.new.self.stores.items
    c.in-Ok.ensures.frame.count c.in-Ok.ensures.settled
    (subst (λ (name : Text). AtStore view c.args.store
    (IsClear name.items c.args.store c.in_ok-front-in-Ok.front) c.finish_prepared.new.self.stores.items
    c.look_again.new.self.stores.items)
    c.in-Ok.ensures.name c.in_ok-front-in-Ok.ensures.clear)

pub returns-in_err-front-in-Ok-clause-fails : goal.returns-in_err-front-in-Ok-clause-fails
returns-in_err-front-in-Ok-clause-fails g c =
    let me = c.args.self.now in
    let view = g.S.Speak.view in
    let d = c.args.decisions.now in
    let fault = c.in_err-front-in-Ok.field-0.0 in
    let p = err_from_is_err_and c.from_residual.result c.from_residual.ensures.1 in
    rw (p.1, p.2)
    (subst (λ (name : Text). BreaksHere view d name.items fault me.branches c.look_again.new.self.branches
    me.stores.items c.look_again.new.self.stores.items)
    c.in-Ok.ensures.name
    (c.in_err-front-in-Ok.ensures.fails d c.in-Ok.tally me.branches me.stores.items c.in-Ok.ensures.frame.count
    (subst (λ (name : Text). AtStore view c.args.store (IsSettled d name.items c.args.store c.in-Ok.tally)
    me.stores.items
    c.finish_prepared.new.self.stores.items) (sym c.in-Ok.ensures.name) c.in-Ok.ensures.settled)))

pub returns-in-Err-clause-fails : goal.returns-in-Err-clause-fails
returns-in-Err-clause-fails g c =
    let me = c.args.self.now in
    let view = g.S.Speak.view in
    let d = c.args.decisions.now in
    subst (λ (fault : RecoverFault). BreaksHere view d me.name.items fault me.branches
    c.finish_prepared.new.self.branches me.stores.items
    c.finish_prepared.new.self.stores.items) (sym c.fault_of.ensures)
    (breaks_by view d me.name.items c.args.store c.in-Err.cause me.branches c.finish_prepared.new.self.branches
    me.stores.items
    c.finish_prepared.new.self.stores.items c.in-Err.ensures.broken)
