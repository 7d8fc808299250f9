use Rattle.std.proofs.Common.{arith}
use Rattle.xa_record.proofs.EventLists.{AreEvents-none, AreEvents-next, AreCalls-whole, kinds_through-none}
use Rattle.xa_record.proofs.EventLists.{kinds_through-next}
use Rattle.xa_record.proofs.events.events_of.Goals as goal

pub loop-one-init : goal.loop-one-init
loop-one-init c = record {
  are = AreEvents-none c.args.allowances.now c.args.numbered.now c.new-events.result.items c.new-events.ensures.items;
  kinds = kinds_through-none c.new-events.result.items _ c.new-events.ensures.items c.none-asked.ensures;
}

pub loop-one-preserved : goal.loop-one-preserved
loop-one-preserved c = record {
  are = AreEvents-next c.args.allowances.now c.args.numbered.now c.loop-one.events.items c.push.new.self.items
      c.loop-one.one-index c.one-item.result c.in_ok-event.event
      _ c.loop-one-test.true c.one-item.is c.loop-one.invariant.are c.loop-one.invariant.kinds c.in_ok-event.ensures
      c.in_ok-push.ensures.items;
  kinds = kinds_through-next c.loop-one.events.items c.push.new.self.items c.in_ok-event.event _ _
      c.loop-one.invariant.kinds c.follow.ensures c.in_ok-push.ensures.items;
}

pub returns-clause-calls : goal.returns-clause-calls
returns-clause-calls c =
    AreCalls-whole c.args.allowances.now c.args.numbered.now c.loop-one.events.items c.loop-one.one-index
    (omega (arith, c.loop-one-test.false, c.loop-one.auto.one-index-end)) c.loop-one.invariant.are
