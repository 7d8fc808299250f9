use Rattle.std.proofs.Common.{◌∙◌, sym}
use Rattle.xa_lines.{specs.Received.held_by, proofs.Clients.{last_ok, last_err, last_nothing}}
use Rattle.xa_lines.proofs.conversation.answer_last.Goals as goal

pub returns-then-is_empty-clause-ok : goal.returns-then-is_empty-clause-ok
returns-then-is_empty-clause-ok g c =
    last_nothing g.S.LineServer.begins g.S.LineServer.answers (g.P.Client.exchange c.args.client.now)
    (held_by c.args.line.now) c.args.server.now
    (sym c.is_empty.ensures ∙ c.if-is_empty.true)

pub returns-clause-ok : goal.returns-clause-ok
returns-clause-ok g c =
    last_ok g.S.LineServer.begins g.S.LineServer.answers _ _ c.answer_begun.result _ _ _
    (sym c.is_empty.ensures ∙ c.if-is_empty.false) c.answer_begun.ensures.answer

pub returns-clause-err : goal.returns-clause-err
returns-clause-err g c =
    last_err g.S.LineServer.begins g.S.LineServer.answers _ _ c.answer_begun.result _ _ _
    (sym c.is_empty.ensures ∙ c.if-is_empty.false) c.answer_begun.ensures.answer
