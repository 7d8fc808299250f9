use Rattle.std.proofs.Common.{length}
use Rattle.xa_statement.proofs.Run.{ReadBefore}
use Rattle.xa_statement.proofs.reader.read_tokens.Given as goal

abbrev pub invariant-loop-rest : goal.invariant-loop-rest
invariant-loop-rest l = ReadBefore l.text l.state l.rest

abbrev pub decreases-loop-rest : goal.decreases-loop-rest
decreases-loop-rest l = length l.rest
