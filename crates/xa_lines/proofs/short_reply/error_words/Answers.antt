use Rattle.std.{proofs.Common.{ap, sym}, specs.Fmt.digits}
use Rattle.xa_lines.specs.Printed.{error_text}
use Rattle.xa_lines.proofs.short_reply.error_words.Goals as goal

pub returns-in-Nota-clause-words : goal.returns-in-Nota-clause-words
unfolding digits
returns-in-Nota-clause-words c = sym (ap error_text c.in-Nota.is)

pub returns-in-Inval-clause-words : goal.returns-in-Inval-clause-words
unfolding digits
returns-in-Inval-clause-words c = sym (ap error_text c.in-Inval.is)

pub returns-in-Dupid-clause-words : goal.returns-in-Dupid-clause-words
unfolding digits
returns-in-Dupid-clause-words c = sym (ap error_text c.in-Dupid.is)

pub returns-in-RowLocked-clause-words : goal.returns-in-RowLocked-clause-words
unfolding digits
returns-in-RowLocked-clause-words c = sym (ap error_text c.in-RowLocked.is)
