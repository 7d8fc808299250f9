use Rattle.xa_statement.proofs.Ways.{takes_comma}
use Rattle.xa_statement.proofs.first.behind_comma.Goals as goal

pub returns : goal.returns
returns c = takes_comma c.args.text.now c.skip_blanks.result.now c.in_ok-rest.rest.now c.skip_blanks.ensures.value
    c.in_ok-rest.ensures
