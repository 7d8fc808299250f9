use Rattle.std.proofs.Common.{Ok, Err, rules}
use Rattle.xa_lines.{specs.Answer.bytes_of, proofs.Behind.given_answer}
use Rattle.xa_lines.proofs.served_answer.serve_given.Goals as goal

pub returns-in-Ok : goal.returns-in-Ok
returns-in-Ok c =
    given_answer c.args.server.now c.serve_read.new.server c.args.session c.args.text.now (Ok c.in-Ok.statement)
    (bytes_of c.serve_read.result) (search rules)
    c.serve_read.ensures.answered

pub returns-in-Err : goal.returns-in-Err
returns-in-Err c =
    given_answer c.args.server.now c.args.server.now c.args.session c.args.text.now (Err c.in-Err.fault.at)
    (bytes_of c.serve_unread.result) (search rules)
    c.serve_unread.ensures.answered
