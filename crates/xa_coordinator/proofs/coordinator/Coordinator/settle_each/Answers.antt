use Rattle.std.proofs.{Common.{◌++◌, ◌∷◌, [], ℕ, List, take, refl, sym, ◌∙◌, subst, arith}, lemmas.List.take_all}
use Rattle.std.proofs.lemmas.Result.{err_from_is_err_and}
use Rattle.xa_xid.specs.{Xid.Text, declared.xid.Xid.Xid}
use Rattle.xa_coordinator.{specs.{declared.report.Tally.Tally, Stores.AtStore}, proofs.Listed.{take_next, at_index}}
use Rattle.xa_coordinator.specs.Recovery.{Settled, nothing, one_more, SettlesOne, IsUnsettled, StopsAmong}
use Rattle.xa_coordinator.proofs.Walk.{at_then, at_same, changes_then, unchanged}
use Rattle.xa_coordinator.proofs.coordinator.Coordinator.settle_each.Goals as goal

pub loop-xid-init : goal.loop-xid-init
loop-xid-init g c =
    let me = c.args.self.now in
    record {
      name = refl;
      frame = unchanged c.args.store me.stores.items;
      marks = unchanged c.args.store me.branches;
      free = c.requires.free;
      few = omega arith;
      added = omega arith;
      settled =
          at_same g.S.Speak.view c.args.store
          (λ old new. Settled c.args.decisions.now me.name.items c.args.store old []
          (record { committed = 0; rolled_back = 0; missing = 0 }) new)
          (λ a. nothing) me.stores.items me.stores.items refl;
    }

pub settle-requires-clause-store : goal.settle-requires-clause-store
settle-requires-clause-store g c = omega (arith, c.loop-xid.invariant.frame.count, c.requires.store)

pub settle-requires-clause-room : goal.settle-requires-clause-room
settle-requires-clause-room g c = omega (arith, c.loop-xid.invariant.few)

pub loop-xid-preserved : goal.loop-xid-preserved
loop-xid-preserved g c =
    let me = c.args.self.now in
    let view = g.S.Speak.view in
    let d = c.args.decisions.now in
    let n : List ℕ = me.name.items in
    let store : ℕ = c.args.store in
    let xids : List Xid = c.args.xids.now in
    let i : ℕ = c.loop-xid.xid-index in
    let x : Xid = c.xid-item.result in
    let before : Tally = c.loop-xid.tally in
    let after : Tally = c.in_ok-tally.tally in
    let so_far = c.loop-xid.invariant in
    record {
      name = c.in_ok-tally.ensures.name ∙ so_far.name;
      frame = changes_then store me.stores.items c.loop-xid.self.stores.items c.settle.new.self.stores.items
          so_far.frame c.in_ok-tally.ensures.frame;
      marks = changes_then store me.branches c.loop-xid.self.branches c.settle.new.self.branches so_far.marks
          c.in_ok-tally.ensures.marks;
      free = c.in_ok-tally.ensures.free;
      few = omega (arith, so_far.few, c.in_ok-tally.ensures.more);
      added = omega (arith, so_far.added, c.in_ok-tally.ensures.few);
      settled = subst (λ (list : List Xid). AtStore view store
          (λ old new. Settled d n store old list after new) me.stores.items c.settle.new.self.stores.items)
          (sym (take_next xids i x (at_index xids i x c.xid-item.is c.loop-xid-test.true)))
          (at_then view store (λ a b. Settled d n store a (take i xids) before b)
          (λ a b. SettlesOne d n store x before a after b)
          (λ a b. Settled d n store a (take i xids ++ x ∷ []) after b)
          (λ a m b settled one. one_more (take i xids) before m settled x after b one)
          me.stores.items c.loop-xid.self.stores.items c.settle.new.self.stores.items so_far.frame.count so_far.settled
          (subst (λ (name : Text). AtStore view store
          (λ a b. SettlesOne d name.items store x before a after b) c.loop-xid.self.stores.items
          c.settle.new.self.stores.items) so_far.name
          c.in_ok-tally.ensures.settled));
    }

pub returns-in_err-tally-clause-broken : goal.returns-in_err-tally-clause-broken
returns-in_err-tally-clause-broken g c =
    let me = c.args.self.now in
    let view = g.S.Speak.view in
    let d = c.args.decisions.now in
    let n : List ℕ = me.name.items in
    let store : ℕ = c.args.store in
    let xids : List Xid = c.args.xids.now in
    let i : ℕ = c.loop-xid.xid-index in
    let x : Xid = c.xid-item.result in
    let cause = c.in_err-tally.field-0.0 in
    let so_far = c.loop-xid.invariant in
    let p = err_from_is_err_and c.from_residual.result c.from_residual.ensures.1 in
    rw (p.1, p.2)
    (at_then view store (λ a b. Settled d n store a (take i xids) c.loop-xid.tally b) (IsUnsettled d n store x cause)
    (StopsAmong d n store xids cause)
    (λ a m b settled unsettled. record {
      place = i;
      xid = x;
      there = at_index xids i x c.xid-item.is c.loop-xid-test.true;
      tally = c.loop-xid.tally;
      mid = m;
      settled = settled;
      unsettled = unsettled;
    })
    me.stores.items c.loop-xid.self.stores.items c.settle.new.self.stores.items so_far.frame.count so_far.settled
    (subst (λ (name : Text). AtStore view store (IsUnsettled d name.items store x cause) c.loop-xid.self.stores.items
    c.settle.new.self.stores.items)
    so_far.name c.in_err-tally.ensures.broken))

pub returns-clause-settled : goal.returns-clause-settled
returns-clause-settled g c =
    let me = c.args.self.now in
    subst (λ (list : List Xid). AtStore g.S.Speak.view c.args.store
    (λ old new. Settled c.args.decisions.now me.name.items c.args.store old list c.loop-xid.tally new) me.stores.items
    c.loop-xid.self.stores.items)
    (take_all c.loop-xid.xid-index c.args.xids.now c.loop-xid-test.false) c.loop-xid.invariant.settled
