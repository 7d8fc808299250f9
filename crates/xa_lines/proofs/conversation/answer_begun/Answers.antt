use Rattle.xa_lines.proofs.Clients.{told_on}
use Rattle.xa_lines.proofs.conversation.answer_begun.Goals as goal

pub returns-in-Ok-clause-more : goal.returns-in-Ok-clause-more
returns-in-Ok-clause-more g c =
    told_on _ _ (g.P.Client.exchange c.args.client.now) (g.P.Client.exchange c.tell.new.self) _ c.in-Ok.ensures
    c.requires
