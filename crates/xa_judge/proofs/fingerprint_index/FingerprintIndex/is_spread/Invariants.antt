use Rattle.std.proofs.Common.{◌≤◌}
use Rattle.xa_judge.proofs.Spreading.{Chosen}
use Rattle.xa_judge.proofs.fingerprint_index.FingerprintIndex.is_spread.Given as goal

-- as many different configurations as were counted, before the place
abbrev pub invariant-loop-one : goal.invariant-loop-one
invariant-loop-one l = record {
  most : l.count ≤ l.one-index;
  chosen : Chosen l.known l.self.written.items l.marks l.count;
}
