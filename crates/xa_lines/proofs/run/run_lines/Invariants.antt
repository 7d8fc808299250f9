use Rattle.std.proofs.Common.{length}
use Rattle.xa_lines.specs.{Calls.IsWrittenBut, Script.lines_of, Transcript.{run_text, transcript, IsWrittenUpTo}}
use Rattle.xa_lines.proofs.run.run_lines.Given as goal

abbrev pub invariant-loop-rest : goal.invariant-loop-rest
invariant-loop-rest g l = record {
  known : IsWrittenUpTo (g.W.Write.contents l.fn.writer) (g.W.Write.contents l.writer) (transcript l.script)
      (run_text l.server (lines_of l.rest));
  calls : IsWrittenBut g.W.PieceWriter.takes l.fn.writer (transcript l.script)
      (run_text l.server (lines_of l.rest)) l.writer;
}

abbrev pub decreases-loop-rest : goal.decreases-loop-rest
decreases-loop-rest g l = length l.rest
