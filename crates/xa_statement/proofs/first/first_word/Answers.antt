use Rattle.xa_statement.{specs.declared.token.Token.TheVariants.Word, proofs.Ways.takes}
use Rattle.xa_statement.proofs.first.first_word.Goals as goal

pub returns-in_ok-word-in-None : goal.returns-in_ok-word-in-None
returns-in_ok-word-in-None c =
    let found = c.in_ok-word-in-None in
    takes (Word found.word) c.args.text.now c.skip_blanks.result.now found.rest.now c.skip_blanks.ensures.value
    found.ensures.some found.ensures.token
