use Rattle.std.{proofs.Common.{◌≤◌, vec_len}, specs.Io.KnownBytes.Consumes}
use Rattle.xa_lines.specs.Calls.{Carries}
use Rattle.xa_lines.proofs.streams.read_within.Given as goal

abbrev pub invariant-loop-read : goal.invariant-loop-read
invariant-loop-read g l = record {
  consumed : Consumes (g.R.Read.remaining l.fn.reader) (g.R.Read.remaining l.reader) l.text.items;
  short : vec_len l.text ≤ l.most;
  calls : Carries g.R.PieceReader.gives l._read l.fn.reader l.text.items l.reader;
}
