use Rattle.std.proofs.Common.{inl, inr}
use Rattle.xa_lines.{specs.Answer.bytes_of, proofs.Behind.reply_answers}
use Rattle.xa_lines.proofs.served_answer.serve_short.Goals as goal

pub returns-in-Ok-clause-answered : goal.returns-in-Ok-clause-answered
returns-in-Ok-clause-answered c =
    inl (
      reply_answers c.args.server.now c.args.session c.args.statement.now c.args.reply.now
          (bytes_of c.reply_told.result) c.requires.reply c.reply_told.ensures.bytes,
      c.in-Ok.ensures.after,
    )

pub returns-in-Err-clause-answered : goal.returns-in-Err-clause-answered
returns-in-Err-clause-answered c = inr (c.refusal.ensures.bytes, c.in-Err.ensures.unchanged, c.in-Err.ensures.memory)
