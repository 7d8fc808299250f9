use Rattle.std.{proofs.Common.{◌≤◌, ◌-◌, length, take}, specs.Io.KnownBytes.Appends}
use Rattle.xa_lines.specs.Calls.{HasWritten}
use Rattle.xa_lines.proofs.streams.write_whole.Given as goal

abbrev pub invariant-loop-written : goal.invariant-loop-written
invariant-loop-written g l = record {
  within : l.written ≤ length l.bytes;
  appended : Appends (g.W.Write.contents l.fn.writer) (g.W.Write.contents l.writer) (take l.written l.bytes);
  calls : HasWritten g.W.PieceWriter.takes l.fn.writer (take l.written l.bytes) l.writer;
}

abbrev pub decreases-loop-written : goal.decreases-loop-written
decreases-loop-written g l = length l.bytes - l.written
