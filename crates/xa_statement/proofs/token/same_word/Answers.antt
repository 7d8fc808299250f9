use Rattle.xa_statement.proofs.Words.{is_word_from}
use Rattle.xa_statement.proofs.token.same_word.Goals as goal

pub returns : goal.returns
returns c = is_word_from c.args.word.now c.args.run.now c.eq_ignore_ascii_case.result
    c.eq_ignore_ascii_case.ensures.test
