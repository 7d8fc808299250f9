use Rattle.std.proofs.{Common.{◌≡◌, ◌==◌, ◌≤◌, ◌-◌, ◌^◌, ◌+◌, true, false, arith}, lemmas.Bool.Decides.nat_tests}
use Rattle.std.proofs.lemmas.Result.{err_from_is_err_and}
use Rattle.xa_lines.{specs.Received.held_by, proofs.Clients.{ready_fresh, ready_ok, receive_err, receive_end}}
use Rattle.xa_lines.proofs.Clients.{receive_some, flush_ok, flush_err, served_ok, served_err, passed_on, spent}
use Rattle.xa_lines.proofs.conversation.serve.Goals as goal

pub loop-read-init : goal.loop-read-init
loop-read-init g c =
    ready_fresh g.S.LineServer.begins g.S.LineServer.answers (g.P.Client.exchange c.args.client.now)
    (held_by c.in_ok-line.line) c.args.server.now c.requires.fresh c.in_ok-line.ensures c.requires.begins

pub receive-requires-clause-answered : goal.receive-requires-clause-answered
receive-requires-clause-answered g c =
    ready_ok g.S.LineServer.begins g.S.LineServer.answers c.loop-read._read (g.P.Client.exchange c.loop-read.client)
    (held_by c.loop-read.line) c.loop-read.server c.loop-read.invariant

pub returns-in-Err-clause-fault : goal.returns-in-Err-clause-fault
returns-in-Err-clause-fault g c =
    receive_err g.S.LineServer.begins g.S.LineServer.answers c.loop-read._read (g.P.Client.exchange c.loop-read.client)
    (g.P.Client.exchange c.receive.new.self) c.in-Err.field-0 c.receive.new.piece
    (held_by c.loop-read.line) c.loop-read.server c.in-Err.ensures.received c.loop-read.invariant

pub returns-in_err-answer_last-clause-fault : goal.returns-in_err-answer_last-clause-fault
returns-in_err-answer_last-clause-fault g c =
    let none : (c.in-Ok.count == 0) ≡ true = grind (arith, nat_tests) in
    let under =
    receive_end g.S.LineServer.begins g.S.LineServer.answers _ c.loop-read._read
    (g.P.Client.exchange c.loop-read.client)
    (g.P.Client.exchange c.receive.new.self) c.in-Ok.count c.receive.new.piece
    (held_by c.loop-read.line) c.loop-read.server none c.in-Ok.ensures.received c.loop-read.invariant in
    let p = err_from_is_err_and c.from_residual-in_err-answer_last.result
    c.from_residual-in_err-answer_last.ensures.1 in
    passed_on g.S.LineServer.begins g.S.LineServer.answers
    (g.P.Client.exchange c.answer_last.new.client) c.from_residual-in_err-answer_last.result p.0 _ p.1 p.2
    c.in_err-answer_last.ensures.fault
    (c.in_err-answer_last.ensures.err c.loop-read._read under)

pub returns-then-count-eq0-clause-ok : goal.returns-then-count-eq0-clause-ok
returns-then-count-eq0-clause-ok g c =
    let none : (c.in-Ok.count == 0) ≡ true = grind (arith, nat_tests) in
    let under =
    receive_end g.S.LineServer.begins g.S.LineServer.answers _ c.loop-read._read
    (g.P.Client.exchange c.loop-read.client)
    (g.P.Client.exchange c.receive.new.self) c.in-Ok.count c.receive.new.piece
    (held_by c.loop-read.line) c.loop-read.server none c.in-Ok.ensures.received c.loop-read.invariant in
    served_ok g.S.LineServer.begins g.S.LineServer.answers (g.P.Client.exchange c.answer_last.new.client)
    (g.P.Client.exchange c.flush.new.client) c.flush.result c.flush.ensures.flushed
    (c.in_ok-answer_last.ensures.ok c.loop-read._read under)

pub returns-then-count-eq0-clause-fault : goal.returns-then-count-eq0-clause-fault
returns-then-count-eq0-clause-fault g c =
    let none : (c.in-Ok.count == 0) ≡ true = grind (arith, nat_tests) in
    let under =
    receive_end g.S.LineServer.begins g.S.LineServer.answers _ c.loop-read._read
    (g.P.Client.exchange c.loop-read.client)
    (g.P.Client.exchange c.receive.new.self) c.in-Ok.count c.receive.new.piece
    (held_by c.loop-read.line) c.loop-read.server none c.in-Ok.ensures.received c.loop-read.invariant in
    served_err g.S.LineServer.begins g.S.LineServer.answers (g.P.Client.exchange c.answer_last.new.client)
    (g.P.Client.exchange c.flush.new.client) c.flush.result c.flush.ensures.fault c.flush.ensures.flushed
    (c.in_ok-answer_last.ensures.ok c.loop-read._read under)

pub returns-in_err-take_piece-clause-fault : goal.returns-in_err-take_piece-clause-fault
returns-in_err-take_piece-clause-fault g c =
    let some : (c.in-Ok.count == 0) ≡ false = grind (arith, nat_tests) in
    let under =
    receive_some g.S.LineServer.begins g.S.LineServer.answers _ c.loop-read._read
    (g.P.Client.exchange c.loop-read.client)
    (g.P.Client.exchange c.receive.new.self) c.in-Ok.count c.receive.new.piece
    (held_by c.loop-read.line) c.loop-read.server some c.in-Ok.ensures.bound.0 c.in-Ok.ensures.received
    c.loop-read.invariant in
    let p = err_from_is_err_and c.from_residual-in_err-take_piece.result c.from_residual-in_err-take_piece.ensures.1 in
    passed_on g.S.LineServer.begins g.S.LineServer.answers
    (g.P.Client.exchange c.take_piece.new.client) c.from_residual-in_err-take_piece.result p.0 _ p.1 p.2
    c.in_err-take_piece.ensures.fault
    (c.in_err-take_piece.ensures.err (c.loop-read._read + 1) under)

pub returns-in_err-flush-clause-fault : goal.returns-in_err-flush-clause-fault
returns-in_err-flush-clause-fault g c =
    let some : (c.in-Ok.count == 0) ≡ false = grind (arith, nat_tests) in
    let under =
    receive_some g.S.LineServer.begins g.S.LineServer.answers _ c.loop-read._read
    (g.P.Client.exchange c.loop-read.client)
    (g.P.Client.exchange c.receive.new.self) c.in-Ok.count c.receive.new.piece
    (held_by c.loop-read.line) c.loop-read.server some c.in-Ok.ensures.bound.0 c.in-Ok.ensures.received
    c.loop-read.invariant in
    let p = err_from_is_err_and c.from_residual-in_err-flush.result c.from_residual-in_err-flush.ensures.1 in
    let begun =
    flush_err g.S.LineServer.begins g.S.LineServer.answers _ (c.loop-read._read + 1)
    (g.P.Client.exchange c.take_piece.new.client)
    (g.P.Client.exchange c.flush-in-loop-read.new.client) _
    (held_by c.take_piece.new.line) c.take_piece.new.server c.in_err-flush.ensures.flushed
    (c.in_ok-take_piece.ensures.ok (c.loop-read._read + 1) under) in
    passed_on g.S.LineServer.begins g.S.LineServer.answers
    (g.P.Client.exchange c.flush-in-loop-read.new.client) c.from_residual-in_err-flush.result p.0 _ p.1 p.2
    c.in_err-flush.ensures.fault begun

pub loop-read-preserved : goal.loop-read-preserved
loop-read-preserved g c =
    let some : (c.in-Ok.count == 0) ≡ false = grind (arith, nat_tests) in
    let under =
    receive_some g.S.LineServer.begins g.S.LineServer.answers _ c.loop-read._read
    (g.P.Client.exchange c.loop-read.client)
    (g.P.Client.exchange c.receive.new.self) c.in-Ok.count c.receive.new.piece
    (held_by c.loop-read.line) c.loop-read.server some c.in-Ok.ensures.bound.0 c.in-Ok.ensures.received
    c.loop-read.invariant in
    flush_ok g.S.LineServer.begins g.S.LineServer.answers _ (c.loop-read._read + 1)
    (g.P.Client.exchange c.take_piece.new.client)
    (g.P.Client.exchange c.flush-in-loop-read.new.client) c.in_ok-flush.field-0
    (held_by c.take_piece.new.line) c.take_piece.new.server c.in_ok-flush.ensures.flushed
    (c.in_ok-take_piece.ensures.ok (c.loop-read._read + 1) under)

pub returns-clause-fault : goal.returns-clause-fault
returns-clause-fault g c =
    let all : 2 ^ 64 - 1 ≤ c.loop-read._read = omega arith in
    spent g.S.LineServer.begins g.S.LineServer.answers c.loop-read._read (g.P.Client.exchange c.loop-read.client)
    (held_by c.loop-read.line) c.loop-read.server all c.loop-read.invariant
