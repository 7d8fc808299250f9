use Rattle.std.{proofs.Common.{◌≤◌, length, take}, specs.Io.KnownBytes.Appends}
use Rattle.xa_lines.specs.Trying.{Tries}
use Rattle.xa_lines.proofs.transport.give.Given as goal

abbrev pub invariant-loop-try : goal.invariant-loop-try
invariant-loop-try g l = record {
  within : l.written ≤ length l.text;
  appended : Appends (g.W.Write.contents l.fn.writer) (g.W.Write.contents l.writer) (take l.written l.text);
  calls : Tries g.W.PieceWriter.takes g.W.PieceWriter.interrupts l._try l.fn.writer (take l.written l.text) l.writer;
}
