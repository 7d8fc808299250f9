use Rattle.xa_lines.specs.Printed.{converts}
use Rattle.xa_races.proofs.Race.{mapped_more}
use Rattle.xa_races.proofs.asked.asked_by.Goals as goal

pub loop-statement-preserved : goal.loop-statement-preserved
loop-statement-preserved c =
    mapped_more converts c.args.statements.now c.loop-statement.statement-index c.statement-item.result
    c.loop-statement.asked.items c.push.new.self.items
    c.converts.result c.loop-statement-test.true c.statement-item.is c.loop-statement.invariant c.converts.ensures
    c.in_ok-push.ensures.items
