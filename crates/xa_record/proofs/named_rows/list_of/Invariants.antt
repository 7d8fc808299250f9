use Rattle.std.proofs.Common.{◌≡◌, ◌++◌}
use Rattle.xa_record.proofs.named_rows.list_of.Given as goal

abbrev pub invariant-loop-key : goal.invariant-loop-key
invariant-loop-key l = l.keys.keys ≡ l.list.items ++ l.key-iterator
