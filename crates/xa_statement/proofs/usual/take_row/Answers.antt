use Rattle.xa_statement.proofs.Ways.{row_leads}
use Rattle.xa_statement.proofs.usual.take_row.Goals as goal

pub returns : goal.returns
returns c = λ some.
    row_leads c.args.text.now c.in_ok-found.found.now c.in_ok-next.next.now c.in_ok-rest.rest.now
    c.take_literal.new.bytes c.take_literal-2.new.bytes
    c.in_ok-found.ensures c.in_ok-next.ensures c.in_ok-rest.ensures some
