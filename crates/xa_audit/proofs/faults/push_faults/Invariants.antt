use Rattle.std.proofs.Common.{◌≡◌, ◌+◌, ◌++◌, ◌≤◌, length}
use Rattle.xa_lines.specs.Script.{lines_of}
use Rattle.xa_audit.specs.Histories.{faults_in}
use Rattle.xa_audit.proofs.faults.push_faults.Given as goal

abbrev pub invariant-loop-rest : goal.invariant-loop-rest
invariant-loop-rest l = record {
  text : l.fn.faults.items ++ faults_in l.store 1 (lines_of l.history) ≡ l.faults.items
      ++ faults_in l.store (l.number + 1) (lines_of l.rest);
  short : l.number + length l.rest ≤ length l.history;
}

abbrev pub decreases-loop-rest : goal.decreases-loop-rest
decreases-loop-rest l = length l.rest
