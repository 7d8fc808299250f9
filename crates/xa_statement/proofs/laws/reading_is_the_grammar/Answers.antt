use Rattle.xa_statement.proofs.Faults.{reads_spelled, reads_fault}
use Rattle.xa_statement.proofs.laws.reading_is_the_grammar.Goals as goal

pub returns : goal.returns
returns c = record { spelled = reads_spelled; fault = reads_fault }
