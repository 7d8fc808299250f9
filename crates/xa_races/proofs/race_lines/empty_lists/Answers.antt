use Rattle.std.proofs.Common.{arith}
use Rattle.xa_races.proofs.ReadLines.{empty_more}
use Rattle.xa_races.proofs.race_lines.empty_lists.Goals as goal

pub loop-alloc-preserved : goal.loop-alloc-preserved
loop-alloc-preserved c = record {
  few = omega (arith, c.in_ok-push.ensures.len, c.loop-alloc-test.true, c.len.ensures);
  empty = empty_more (λ list. list.items) c.loop-alloc.lists.items c.push.new.self.items c.new.result
      c.in_ok-push.ensures.items c.new.ensures.items
      c.loop-alloc.invariant.empty;
}
