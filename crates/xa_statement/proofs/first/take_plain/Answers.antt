use Rattle.std.proofs.Common.{ap, ◌∙◌}
use Rattle.xa_statement.{specs.Token.token_at, proofs.Ways.{single_first, double_first}}
use Rattle.xa_statement.proofs.first.take_plain.Goals as goal

pub returns-in_ok-rest-in-Some-clause-token : goal.returns-in_ok-rest-in-Some-clause-token
returns-in_ok-rest-in-Some-clause-token c =
    ap token_at c.in-Some.ensures ∙ single_first c.in-Some.body.now c.in_ok-rest-in-Some.rest.now
    c.take_quoted.new.bytes c.in_ok-rest-in-Some.ensures

pub returns-in_ok-rest-in-None-clause-token : goal.returns-in_ok-rest-in-None-clause-token
returns-in_ok-rest-in-None-clause-token c =
    ap token_at c.in_ok-body-in-None.ensures
    ∙ double_first c.in_ok-body-in-None.body.now c.in_ok-rest-in-None.rest.now c.take_quoted-in-None.new.bytes
    c.in_ok-rest-in-None.ensures
