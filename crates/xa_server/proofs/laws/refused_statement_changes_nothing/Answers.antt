use Rattle.xa_server.proofs.Changes.{refused_leaves}
use Rattle.xa_server.proofs.laws.refused_statement_changes_nothing.Goals as goal

pub returns : goal.returns
returns c = refused_leaves
