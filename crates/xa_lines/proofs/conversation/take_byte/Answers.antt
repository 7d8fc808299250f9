use Rattle.std.proofs.{Common.{◌≡◌, ◌==◌, false, arith}, lemmas.Bool.Decides.nat_tests}
use Rattle.xa_lines.{specs.Received.held_by, proofs.Clients.{feed_ok, feed_err, put_ok}}
use Rattle.xa_lines.proofs.conversation.take_byte.Goals as goal

pub returns-then-byte-eq10-clause-ok : goal.returns-then-byte-eq10-clause-ok
returns-then-byte-eq10-clause-ok g c =
    feed_ok g.S.LineServer.begins g.S.LineServer.answers _ _ c.answer_begun.result c.args.byte _ _ _ _
    c.if-byte-eq10.true c.answer_begun.ensures.next
    c.answer_begun.ensures.answer

pub returns-then-byte-eq10-clause-err : goal.returns-then-byte-eq10-clause-err
returns-then-byte-eq10-clause-err g c =
    feed_err g.S.LineServer.begins g.S.LineServer.answers _ _ c.answer_begun.result c.args.byte _ _ _
    c.if-byte-eq10.true c.answer_begun.ensures.answer

pub returns-else-byte-eq10-clause-ok : goal.returns-else-byte-eq10-clause-ok
returns-else-byte-eq10-clause-ok g c =
    let other : (c.args.byte == 10) ≡ false = grind (arith, nat_tests) in
    put_ok g.S.LineServer.begins g.S.LineServer.answers (g.P.Client.exchange c.args.client.now) c.args.byte
    (held_by c.args.line.now)
    (held_by c.put.new.self) c.args.server.now other c.put.ensures
