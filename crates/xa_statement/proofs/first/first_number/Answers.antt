use Rattle.xa_xid.specs.Literal.{literal_ahead}
use Rattle.xa_statement.{specs.Token.part_of, proofs.{Ways.takes, Openings.number_first}}
use Rattle.xa_statement.proofs.first.first_number.Goals as goal

pub returns-in-Ok : goal.returns-in-Ok
returns-in-Ok c =
    let front = c.skip_blanks.result.now in
    let rest = c.in-Ok.rest.now in
    let first = number_first front rest c.in-Ok.number c.in-Ok.ensures.value in (
      part_of (literal_ahead front),
      takes _ c.args.text.now front rest c.skip_blanks.ensures.value first.some first.token,
    )
