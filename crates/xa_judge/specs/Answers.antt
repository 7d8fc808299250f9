-- Answers as configurations keep them.
use Rattle.xa_server.specs.declared.reply.Reply.{Reply}
use Rattle.xa_judge.specs.declared.{answer.Answer.Answer, kept_answer.KeptAnswer.KeptAnswer}

-- the answer for which a kept one stands: the answer itself, or the reply to XA RECOVER with these identifiers
abbrev pub answer_kept : KeptAnswer → Answer
answer_kept (KeptAnswer.Whole answer) = answer
answer_kept (KeptAnswer.Listed xids) = Answer.Reply (Reply.Recovered xids.items)
