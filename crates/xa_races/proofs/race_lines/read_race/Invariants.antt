use Rattle.std.proofs.Common.{◌+◌, ◌≤◌, length}
use Rattle.xa_races.proofs.ReadLines.{IsReadUpTo}
use Rattle.xa_races.proofs.race_lines.read_race.Given as goal

abbrev pub invariant-loop-rest : goal.invariant-loop-rest
invariant-loop-rest l = record {
  read : IsReadUpTo l.script l.rest l.number l.given;
  short : l.number + length l.rest ≤ 1 + length l.script;
}

abbrev pub decreases-loop-rest : goal.decreases-loop-rest
decreases-loop-rest l = length l.rest
