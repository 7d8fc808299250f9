use Rattle.xa_statement.proofs.Faults.{spells_one}
use Rattle.xa_statement.proofs.laws.spelled_statement_is_the_only_one.Goals as goal

pub returns : goal.returns
returns c = spells_one
