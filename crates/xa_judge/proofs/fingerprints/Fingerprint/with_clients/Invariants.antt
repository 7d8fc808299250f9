use Rattle.std.{proofs.Common.{◌≡◌, take}, specs.Prelude.fold}
use Rattle.xa_judge.specs.Marks.{with_client}
use Rattle.xa_judge.proofs.fingerprints.Fingerprint.with_clients.Given as goal

-- of the items before the place
abbrev pub invariant-loop-client : goal.invariant-loop-client
invariant-loop-client l = l.fingerprint.number ≡ fold with_client l.fn.self.number (take l.client-index l.clients)
