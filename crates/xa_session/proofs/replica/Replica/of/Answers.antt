use Rattle.xa_session.proofs.Replaying.{stands_first}
use Rattle.std.proofs.Common.{refl}
use Rattle.xa_session.proofs.replica.Replica.of.Goals as goal

pub returns-clause-stands : goal.returns-clause-stands
returns-clause-stands c = λ seen. stands_first c.args.base.now seen _ c.in_ok-copy.ensures refl
