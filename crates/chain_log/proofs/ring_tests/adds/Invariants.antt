use Rattle.std.proofs.Common.{◌≡◌}
use Rattle.chain_log.specs.RingPass.{identity_of, log_of, known_of}
use Rattle.chain_log.proofs.ring_tests.adds.Given as goal

abbrev pub invariant-loop : goal.invariant-loop
invariant-loop l = record {
  belongs : log_of l.pass ≡ identity_of l.log;
  number : (known_of l.pass).number ≡ (known_of l.fn.pass).number;
}
