use Rattle.std.proofs.{Common.{◌+◌, ℕ, refl, ap, ◌∙◌, subst, arith}, lemmas.Result.err_from_is_err_and}
use Rattle.xa_xid.specs.Xid.{Text}
use Rattle.xa_coordinator.{specs.{Recovery.{IsRecovered, BreaksHere}, Stores.AtStore}, proofs.Recovering.frees_none}
use Rattle.xa_coordinator.proofs.Recovering.{frees_next, frees_below, frees_behind, recovers_none, recovers_next}
use Rattle.xa_coordinator.proofs.Recovering.{recovers_all, breaks_at}
use Rattle.xa_coordinator.proofs.coordinator.Coordinator.recover_each.Goals as goal

pub loop-store-init : goal.loop-store-init
loop-store-init g c =
    let me = c.args.self.now in
    record {
      name = refl;
      frees = frees_none me.branches;
      recovers = recovers_none g.S.Speak.view c.args.decisions.now me.name.items _ me.stores.items c.requires.none refl
          refl refl;
      length = c.requires.empty;
      room = c.requires.room;
      committed = omega arith;
      rolled_back = omega arith;
      missing = omega arith;
    }

pub loop-store-preserved : goal.loop-store-preserved
loop-store-preserved g c =
    let me = c.args.self.now in
    let view = g.S.Speak.view in
    let d = c.args.decisions.now in
    let store : ℕ = c.loop-store.store in
    let so_far = c.loop-store.invariant in
    record {
      name = c.in_ok-tally.ensures.name ∙ so_far.name;
      frees = frees_next store me.branches c.loop-store.self.branches c.recover_store.new.self.branches so_far.frees
          c.in_ok-tally.ensures.marks
          c.in_ok-tally.ensures.free;
      recovers =
          recovers_next view d me.name.items store c.loop-store.report c.add.new.self
          (c.in_ok-tally.tally, c.in_ok-tally.front) me.stores.items c.loop-store.self.stores.items
          c.recover_store.new.self.stores.items so_far.recovers
          c.in_ok-tally.ensures.frame
          (subst (λ (name : Text). AtStore view store
          (IsRecovered d name.items store c.in_ok-tally.tally c.in_ok-tally.front) c.loop-store.self.stores.items
          c.recover_store.new.self.stores.items)
          so_far.name
          c.in_ok-tally.ensures.recovered)
          c.add.ensures.fronts c.add.ensures.committed c.add.ensures.rolled_back c.add.ensures.missing;
      length = c.add.ensures.length ∙ ap (λ n. n + 1) so_far.length;
      room = omega (arith, so_far.room, c.add.ensures.capacity);
      committed = omega (arith, so_far.committed, c.add.ensures.committed_within);
      rolled_back = omega (arith, so_far.rolled_back, c.add.ensures.rolled_back_within);
      missing = omega (arith, so_far.missing, c.add.ensures.missing_within);
    }

pub returns-in_err-tally-clause-breaks : goal.returns-in_err-tally-clause-breaks
returns-in_err-tally-clause-breaks g c =
    let me = c.args.self.now in
    let view = g.S.Speak.view in
    let d = c.args.decisions.now in
    let store : ℕ = c.loop-store.store in
    let fault = c.in_err-tally.field-0.0 in
    let p = err_from_is_err_and c.from_residual.result c.from_residual.ensures.1 in
    rw (p.1, p.2)
    (breaks_at view d me.name.items store c.loop-store.report fault me.branches c.loop-store.self.branches
    c.recover_store.new.self.branches me.stores.items
    c.loop-store.self.stores.items c.recover_store.new.self.stores.items
    (omega (arith, c.loop-store-test.true, me.sized))
    c.loop-store.invariant.recovers (c.loop-store.invariant.frees.behind store
    (omega arith)) c.in_err-tally.ensures.frame c.in_err-tally.ensures.place
    (subst (λ (name : Text). BreaksHere view d name.items fault c.loop-store.self.branches
    c.recover_store.new.self.branches c.loop-store.self.stores.items
    c.recover_store.new.self.stores.items)
    c.loop-store.invariant.name c.in_err-tally.ensures.fails))

pub returns-in_err-tally-clause-below : goal.returns-in_err-tally-clause-below
returns-in_err-tally-clause-below g c =
    let p = err_from_is_err_and c.from_residual.result c.from_residual.ensures.1 in
    rw (p.1, p.2)
    (λ store before.
    frees_below c.loop-store.store c.args.self.now.branches c.loop-store.self.branches c.recover_store.new.self.branches
    c.loop-store.invariant.frees
    c.in_err-tally.ensures.marks store (omega (arith, c.in_err-tally.ensures.place, before)))

pub returns-in_err-tally-clause-marks : goal.returns-in_err-tally-clause-marks
returns-in_err-tally-clause-marks g c =
    let p = err_from_is_err_and c.from_residual.result c.from_residual.ensures.1 in
    rw (p.1, p.2)
    (λ store from.
    frees_behind c.loop-store.store c.args.self.now.branches c.loop-store.self.branches
    c.recover_store.new.self.branches c.loop-store.invariant.frees
    c.in_err-tally.ensures.marks store (omega (arith, c.in_err-tally.ensures.place, from)))

pub returns-clause-recovers : goal.returns-clause-recovers
returns-clause-recovers g c =
    let me = c.args.self.now in
    recovers_all g.S.Speak.view c.args.decisions.now me.name.items c.loop-store.store c.loop-store.report
    me.stores.items c.loop-store.self.stores.items
    c.loop-store.invariant.recovers
    (omega (arith, c.loop-store-test.false, me.sized))
