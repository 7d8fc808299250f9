use Rattle.xa_record.proofs.NamedRows.{named-none, named-more}
use Rattle.xa_record.proofs.named_rows.rows_named.Goals as goal

pub loop-event-init : goal.loop-event-init
loop-event-init c = named-none c.args.events.now c.new-keys.result.keys c.new-keys.ensures.empty

pub loop-event-preserved : goal.loop-event-preserved
loop-event-preserved c =
    named-more c.args.events.now c.loop-event.keys.keys c.put_in_row_called.new.keys.keys c.loop-event.event-index
    c.event-item.result
    c.loop-event-test.true c.event-item.is c.loop-event.invariant c.in_ok-put_in_row_called.ensures
