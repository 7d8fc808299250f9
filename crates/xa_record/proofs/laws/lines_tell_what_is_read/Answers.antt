use Rattle.xa_record.proofs.{RecordLines.text-tells, RecordReads.text-told}
use Rattle.xa_record.proofs.laws.lines_tell_what_is_read.Goals as goal

pub returns-clause-told : goal.returns-clause-told
returns-clause-told c = text-tells

pub returns-clause-only : goal.returns-clause-only
returns-clause-only c = text-told
