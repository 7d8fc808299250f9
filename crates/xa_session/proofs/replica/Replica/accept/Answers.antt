use Rattle.std.proofs.Common.{refl}
use Rattle.xa_session.{specs.Answer.entry_of, proofs.Replaying.stands_next}
use Rattle.xa_session.proofs.replica.Replica.accept.Goals as goal

pub returns-clause-ok : goal.returns-clause-ok
returns-clause-ok c = λ base seen stands is.
    stands_next base seen c.args.self.now _ (entry_of c.args.session c.args.statement.now) stands is
    c.in_ok-accept.ensures.ok refl
