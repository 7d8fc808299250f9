use Rattle.std.{proofs.Common.{ap, sym}, specs.Fmt.digits}
use Rattle.xa_server.specs.declared.xa_error.XaError.TheVariants.{Rmfail}
use Rattle.xa_lines.specs.Printed.{error_text}
use Rattle.xa_lines.proofs.short_reply.state_words.Goals as goal

pub returns-in-NonExisting-clause-words : goal.returns-in-NonExisting-clause-words
unfolding digits
returns-in-NonExisting-clause-words c = sym (ap (λ state. error_text (Rmfail state)) c.in-NonExisting.is)

pub returns-in-Active-clause-words : goal.returns-in-Active-clause-words
unfolding digits
returns-in-Active-clause-words c = sym (ap (λ state. error_text (Rmfail state)) c.in-Active.is)

pub returns-in-Idle-clause-words : goal.returns-in-Idle-clause-words
unfolding digits
returns-in-Idle-clause-words c = sym (ap (λ state. error_text (Rmfail state)) c.in-Idle.is)

pub returns-in-Prepared-clause-words : goal.returns-in-Prepared-clause-words
unfolding digits
returns-in-Prepared-clause-words c = sym (ap (λ state. error_text (Rmfail state)) c.in-Prepared.is)
