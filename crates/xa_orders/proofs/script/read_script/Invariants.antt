use Rattle.std.proofs.Common.{◌≡◌, ◌+◌, ◌≤◌, length}
use Rattle.xa_lines.specs.Script.{lines_of}
use Rattle.xa_orders.specs.{Scripts.{script_read, read_lines}, Kept.read_kept}
use Rattle.xa_orders.proofs.script.read_script.Given as goal

abbrev pub invariant-loop-rest : goal.invariant-loop-rest
invariant-loop-rest l = record {
  read : script_read l.text ≡ read_lines (read_kept l.script) (l.number + 1) (lines_of l.rest);
  short : l.number + length l.rest ≤ length l.text;
}

abbrev pub decreases-loop-rest : goal.decreases-loop-rest
decreases-loop-rest l = length l.rest
