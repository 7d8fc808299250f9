use Rattle.std.proofs.Common.{Ok, ap}
use Rattle.xa_server.specs.Step.{is_list}
use Rattle.xa_lines.{specs.Answer.bytes_of, proofs.Behind.{text_answered, reply_answered}}
use Rattle.xa_lines.proofs.served_answer.serve_reply.Goals as goal

pub returns-in-Recovered-clause-answered : goal.returns-in-Recovered-clause-answered
returns-in-Recovered-clause-answered c =
    text_answered (λ answer. answer.items) c.answer_reply-answered.result c.args.server.now
    c.answer_reply-answered.new.server c.args.session (Ok c.args.statement.now)
    (bytes_of c.answer_or_refusal.result)
    (reply_answered c.args.server.now c.args.session c.args.statement.now c.args.reply.now c.requires.reply
    (ap is_list c.in-Recovered.is))
    c.answer_reply-answered.ensures.answer c.answer_reply-answered.ensures.after
    c.answer_reply-answered.ensures.unchanged c.answer_or_refusal.ensures.bytes

pub returns-in-Recovered-clause-room : goal.returns-in-Recovered-clause-room
returns-in-Recovered-clause-room c = c.answer_or_refusal.ensures.room c.answer_reply-answered.ensures.room
