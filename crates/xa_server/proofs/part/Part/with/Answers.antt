use Rattle.xa_server.proofs.Underlying.{merges_one, under_last, over_all}
use Rattle.xa_server.proofs.part.Part.with.Goals as goal

pub loop-next-preserved : goal.loop-next-preserved
loop-next-preserved c q =
    merges_one c.is_empty.result c.loop-next.run c.in-Some.next.now c.in_ok-run.run' c.loop-next.left.now
    c.in-Some.older.now _ q c.in-Some.ensures.cases.0 (under_last c.in-Some.older.now q c.is_empty.result
    c.is_empty.ensures)
    (c.in_ok-run.ensures q) (c.loop-next.invariant q)

pub returns : goal.returns
returns c q =
    over_all c.loop-next.run c.loop-next.left.now c.in_ok-in_front.field-0.items _ q c.in_ok-in_front.ensures
    (c.loop-next.invariant q)
