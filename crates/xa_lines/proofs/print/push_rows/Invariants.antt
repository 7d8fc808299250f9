use Rattle.std.proofs.Common.{◌≡◌, ◌++◌, take}
use Rattle.xa_lines.specs.Printed.{rows_text}
use Rattle.xa_lines.proofs.print.push_rows.Given as goal

abbrev pub invariant-loop-xid : goal.invariant-loop-xid
invariant-loop-xid l = l.text.items ≡ l.initial.text.items ++ rows_text l.convert (take l.xid-index l.xids)
