use Rattle.xa_lines.proofs.Told.{served_ok, served_fault}
use Rattle.xa_lines.proofs.statements.serve_statements.Goals as goal

pub returns-clause-told : goal.returns-clause-told
returns-clause-told g c = served_ok c.serve.result (g.P.Client.exchange c.serve.new.client) c.serve.ensures.ok

pub returns-clause-fault : goal.returns-clause-fault
returns-clause-fault g c = served_fault c.serve.result (g.P.Client.exchange c.serve.new.client) c.serve.ensures.fault
