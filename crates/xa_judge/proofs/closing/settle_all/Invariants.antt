use Rattle.std.proofs.Common.{length}
use Rattle.xa_judge.proofs.{Loops.{SettlesBoth, KeepsReachBoth}, Late.SettledOnly}
use Rattle.xa_judge.proofs.closing.settle_all.Given as goal

abbrev pub invariant-loop-one : goal.invariant-loop-one
invariant-loop-one l = record {
  has : SettlesBoth l.session l.fn.known.items l.known.items l.list.items;
  reach : KeepsReachBoth l.fn.known.items l.known.items l.list.items;
  only : SettledOnly l.session l.fn.known.items l.known.items l.list.items;
}

abbrev pub decreases-loop-one : goal.decreases-loop-one
decreases-loop-one l = length l.known.items
