use Rattle.xa_session.proofs.Answering.{disconnected}
use Rattle.xa_session.proofs.session.Session.disconnect.Goals as goal

pub returns-in-Ok-clause-answered : goal.returns-in-Ok-clause-answered
returns-in-Ok-clause-answered g c =
    (c.in-Ok.field-0.place, disconnected c.args.self.base.now c.in-Ok.field-0 _ _ c.in-Ok.ensures.answers.answered)
