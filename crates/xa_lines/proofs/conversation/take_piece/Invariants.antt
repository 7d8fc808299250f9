use Rattle.std.{proofs.Common.{ℕ, drop}, specs.Prelude.IfSome}
use Rattle.xa_lines.specs.{Received.held_by, Exchange.CanBeTold, UnderWay.UnderWay, declared.stage.Stage.Stage}
use Rattle.xa_lines.proofs.conversation.take_piece.Given as goal

abbrev pub invariant-loop-byte : goal.invariant-loop-byte
invariant-loop-byte g l = record {
  can : IfSome (g.P.Client.exchange l.client) CanBeTold;
  under : (reads : ℕ)
      → UnderWay g.S.LineServer.begins g.S.LineServer.answers Stage.Open reads (g.P.Client.exchange l.fn.client) l.piece
      (held_by l.fn.line) l.fn.server
      → UnderWay g.S.LineServer.begins g.S.LineServer.answers Stage.Open reads (g.P.Client.exchange l.client)
      (drop l.byte-index l.piece) (held_by l.line) l.server;
}
