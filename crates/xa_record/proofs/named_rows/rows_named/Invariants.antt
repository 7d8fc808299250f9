use Rattle.std.proofs.Common.{◌≡◌, take}
use Rattle.xa_record.specs.Reports.{keys_named}
use Rattle.xa_record.proofs.named_rows.rows_named.Given as goal

abbrev pub invariant-loop-event : goal.invariant-loop-event
invariant-loop-event l = l.keys.keys ≡ keys_named (take l.event-index l.events)
