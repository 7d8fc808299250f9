use Rattle.std.proofs.Common.{◌∙◌, lit≤}
use Rattle.xa_lines.proofs.Told.{bad_text}
use Rattle.xa_lines.proofs.short_answer.bad_line.Goals as goal

pub returns-clause-bytes : goal.returns-clause-bytes
returns-clause-bytes c = c.short_answer.ensures.bytes ∙ bad_text

pub returns-clause-room : goal.returns-clause-room
returns-clause-room c = c.short_answer.ensures.room 16 (lit≤ tt)
