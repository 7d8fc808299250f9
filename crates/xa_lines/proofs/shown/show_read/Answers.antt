use Rattle.std.proofs.Common.{Ok, ◌∙◌}
use Rattle.xa_lines.{specs.Answer.bytes_of, proofs.Behind.{given_answer, given_shown, given_unshown}}
use Rattle.xa_lines.proofs.shown.show_read.Goals as goal

pub returns-in-Ok : goal.returns-in-Ok
returns-in-Ok c = λ text is.
    given_shown c.args.server.now c.serve_read-answer.new.server c.args.session text (Ok c.args.statement.now)
    (bytes_of c.serve_read-answer.result)
    (bytes_of c.with_shown.result) c.as_slice.result.now is (c.as_slice.ensures.value ∙ c.in-Ok.ensures.listed)
    (given_answer c.args.server.now c.serve_read-answer.new.server c.args.session text (Ok c.args.statement.now)
    (bytes_of c.serve_read-answer.result) is
    c.serve_read-answer.ensures.answered) c.with_shown.ensures

pub returns-in-Err : goal.returns-in-Err
returns-in-Err c = λ text is.
    given_unshown c.args.server.now c.serve_read-answer.new.server c.args.session text (Ok c.args.statement.now)
    (bytes_of c.serve_read-answer.result) (bytes_of c.with_unshown.result) is c.in-Err.ensures.memory
    (given_answer c.args.server.now c.serve_read-answer.new.server c.args.session text (Ok c.args.statement.now)
    (bytes_of c.serve_read-answer.result) is
    c.serve_read-answer.ensures.answered) c.with_unshown.ensures
