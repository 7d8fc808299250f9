use Rattle.xa_session.proofs.Entering.{entering_accepted}
use Rattle.xa_endless.proofs.replica.Replica.keep.Goals as goal

pub accept-requires-clause-accepted : goal.accept-requires-clause-accepted
accept-requires-clause-accepted c =
    entering_accepted c.args.self.now.server c.args.session c.args.statement.now c.requires.enters
