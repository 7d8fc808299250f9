use Rattle.std.proofs.Common.{◌≡◌, ◌≤◌}
use Rattle.chain_log.specs.RingPass.{log_of, known_of}
use Rattle.xa_endless.specs.Replicas.{Stands}
use Rattle.xa_endless.proofs.replica.Replica.catch_up.Given as goal

abbrev pub invariant-loop : goal.invariant-loop
invariant-loop l = record {
  belongs : log_of l.pass ≡ log_of l.fn.pass;
  known : known_of l.pass ≡ known_of l.fn.pass;
  stands : Stands (known_of l.pass).seen l.self;
  folds : l.fn.self.replayed ≤ l.self.replayed;
  replayed : l.self.replayed ≡ l.counter;
}
