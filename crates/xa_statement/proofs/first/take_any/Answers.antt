use Rattle.xa_statement.proofs.Openings.{literal_first}
use Rattle.xa_statement.proofs.first.take_any.Goals as goal

pub returns-in-Ok-clause-some : goal.returns-in-Ok-clause-some
returns-in-Ok-clause-some c =
    (literal_first c.args.text.now c.in-Ok.rest.now c.in-Ok.found c.in-Ok.ensures.value).some

pub returns-in-Ok-clause-token : goal.returns-in-Ok-clause-token
returns-in-Ok-clause-token c =
    let first = literal_first c.args.text.now c.in-Ok.rest.now c.in-Ok.found c.in-Ok.ensures.value in
    (first.number, first.token)
