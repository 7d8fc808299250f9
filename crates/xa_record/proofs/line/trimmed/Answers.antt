use Rattle.xa_record.proofs.Trimmed.{trimmed_over}
use Rattle.xa_record.proofs.line.trimmed.Goals as goal

pub returns : goal.returns
returns c = trimmed_over c.args.text.now c.loop-last.rest.now c.loop-last.invariant c.in_default.ensures.cases
