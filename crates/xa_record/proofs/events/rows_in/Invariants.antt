use Rattle.std.proofs.Common.{◌≡◌, take}
use Rattle.xa_record.specs.Kept.{rows_kept}
use Rattle.xa_record.proofs.events.rows_in.Given as goal

abbrev pub invariant-loop-text : goal.invariant-loop-text
invariant-loop-text l = l.rows.items ≡ rows_kept (take l.text-index l.texts)
