use Rattle.std.proofs.Common.{[], Err, refl}
use Rattle.xa_lines.{specs.Answer.bytes_of, proofs.Behind.{given_answer, given_shown}}
use Rattle.xa_lines.proofs.shown.show_unread.Goals as goal

pub returns : goal.returns
returns c = λ text is.
    given_shown c.args.server.now c.args.server.now c.args.session text (Err c.args.place)
    (bytes_of c.serve_unread-answer.result)
    (bytes_of c.with_shown.result) [] is refl
    (given_answer c.args.server.now c.args.server.now c.args.session text (Err c.args.place)
    (bytes_of c.serve_unread-answer.result) is
    c.serve_unread-answer.ensures.answered) c.with_shown.ensures
