use Rattle.std.proofs.Common.{refl}
use Rattle.xa_lines.{specs.Answer.bytes_of, proofs.Behind.{comment_shown, line_shown}}
use Rattle.xa_lines.proofs.shown.ShownLineServer.answer.Goals as goal

pub returns-then-is_comment : goal.returns-then-is_comment
returns-then-is_comment c =
    comment_shown c.args.self.now.server c.args.line.now
    (bytes_of c.comment_answer.result) c.args.self.now.server c.if-is_comment.ensures c.comment_answer.ensures refl

pub returns : goal.returns
returns c =
    line_shown c.args.self.now.server c.args.line.now (bytes_of c.answer_shown.result) c.answer_shown.new.server
    c.if-is_comment.ensures c.answer_shown.ensures
