use Rattle.std.proofs.Common.{length}
use Rattle.xa_judge.proofs.{Loops.{SeesBoth, ReachesPastBoth}, Late.SeenOnly}
use Rattle.xa_judge.proofs.closing.observe_all.Given as goal

abbrev pub invariant-loop-one : goal.invariant-loop-one
invariant-loop-one l = record {
  has : SeesBoth l.event l.fn.known.items l.known.items l.list.items;
  reach : ReachesPastBoth l.event l.fn.known.items l.known.items l.list.items;
  only : SeenOnly l.event l.fn.known.items l.known.items l.list.items;
}

abbrev pub decreases-loop-one : goal.decreases-loop-one
decreases-loop-one l = length l.known.items
