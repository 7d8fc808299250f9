use Rattle.xa_server.proofs.Underlying.{ends_at, goes_on, ends_nowhere}
use Rattle.xa_server.proofs.part.Part.get.Goals as goal

pub returns-in-Some-find : goal.returns-in-Some-find
returns-in-Some-find c =
    ends_at c.in-Some.run'.now c.in-Some.older.now c.loop-run.left.now c.args.key.now _ _ _ c.in-Some.ensures.cases.0
    c.loop-run.invariant c.find.ensures c.in-Some-find.is

pub loop-run-preserved : goal.loop-run-preserved
loop-run-preserved c =
    goes_on c.in-Some.run'.now c.in-Some.older.now c.loop-run.left.now c.args.key.now _ _ c.in-Some.ensures.cases.0
    c.loop-run.invariant c.find.ensures c.in_default-find.is

pub returns : goal.returns
returns c = ends_nowhere c.loop-run.left.now c.args.key.now _ c.in_default.ensures.cases c.loop-run.invariant
