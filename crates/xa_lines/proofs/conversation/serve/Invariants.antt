use Rattle.xa_lines.{specs.Received.held_by, proofs.Clients.Ready}
use Rattle.xa_lines.proofs.conversation.serve.Given as goal

abbrev pub invariant-loop-read : goal.invariant-loop-read
invariant-loop-read g l =
    Ready g.S.LineServer.begins g.S.LineServer.answers l._read (g.P.Client.exchange l.client) (held_by l.line) l.server
