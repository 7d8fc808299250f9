use Rattle.xa_audit.proofs.Mixing.{mixed_over}
use Rattle.xa_audit.proofs.laws.mixed_is_a_commit_beside_dropped_writes.Goals as goal

pub returns : goal.returns
returns c = λ histories globals account global among. mixed_over histories globals account global among
