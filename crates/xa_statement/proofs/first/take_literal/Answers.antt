use Rattle.std.proofs.Common.{Some, None}
use Rattle.xa_statement.{specs.declared.token.Token.TheVariants.Value, proofs.Ways.takes}
use Rattle.xa_statement.proofs.first.take_literal.Goals as goal

pub returns-in-Some : goal.returns-in-Some
returns-in-Some c =
    let front = c.skip_blanks-front.result.now in (
      None,
      takes (Value (Some c.take_plain.new.bytes) None) c.args.text.now front c.in-Some.rest.now
          c.skip_blanks-front.ensures.value c.in-Some.ensures.some c.in-Some.ensures.token,
    )

pub returns-in_ok-rest-in-None : goal.returns-in_ok-rest-in-None
returns-in_ok-rest-in-None c =
    let front = c.skip_blanks-front.result.now in
    let first = c.in_ok-rest-in-None.ensures.token in (
      first.0,
      takes (Value (Some c.take_any.new.bytes) first.0) c.args.text.now front c.in_ok-rest-in-None.rest.now
          c.skip_blanks-front.ensures.value c.in_ok-rest-in-None.ensures.some first.1,
    )
