use Rattle.std.proofs.Common.{refl}
use Rattle.xa_session.specs.Answer.{entry_of}
use Rattle.xa_endless.proofs.Standing.{stands_next}
use Rattle.xa_endless.proofs.replica.Replica.accept.Goals as goal

pub returns-clause-ok : goal.returns-clause-ok
returns-clause-ok c = λ seen stands is.
    stands_next seen c.args.self.now _ (entry_of c.args.session c.args.statement.now) stands is
    c.in_ok-accept.ensures.ok refl
