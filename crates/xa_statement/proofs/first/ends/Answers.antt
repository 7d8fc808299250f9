use Rattle.xa_statement.proofs.Ways.{ends_bare, ends_marked}
use Rattle.xa_statement.proofs.first.ends.Goals as goal

pub returns-in-Some : goal.returns-in-Some
returns-in-Some c is =
    ends_marked c.args.text.now c.skip_blanks-front.result.now c.in-Some.rest.now c.skip_blanks.result.now
    c.is_empty.result
    c.skip_blanks-front.ensures.value c.in-Some.ensures c.skip_blanks.ensures.value c.is_empty.ensures is

pub returns-in-None : goal.returns-in-None
returns-in-None c is =
    ends_bare c.args.text.now c.skip_blanks-front.result.now c.is_empty-in-None.result c.skip_blanks-front.ensures.value
    c.is_empty-in-None.ensures is
