use Rattle.std.proofs.Common.{◌≡◌, ◌+◌, ◌≤◌, length}
use Rattle.xa_lines.specs.Script.{lines_of}
use Rattle.xa_record.{specs.Allowances.{allowances_in, allowances_of}, proofs.AllowanceLists.prepended}
use Rattle.xa_record.proofs.allowances.read_allowances.Given as goal

abbrev pub invariant-loop-rest : goal.invariant-loop-rest
invariant-loop-rest l = record {
  read : allowances_of l.text ≡ prepended l.list.items (allowances_in (l.number + 1) (lines_of l.rest));
  short : l.number + length l.rest ≤ length l.text;
}

abbrev pub decreases-loop-rest : goal.decreases-loop-rest
decreases-loop-rest l = length l.rest
