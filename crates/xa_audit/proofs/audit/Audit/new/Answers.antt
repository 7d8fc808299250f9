use Rattle.std.proofs.Common.{refl}
use Rattle.xa_audit.specs.Histories.{faults_from}
use Rattle.xa_audit.proofs.audit.Audit.new.Goals as goal

pub returns-clause-audit : goal.returns-clause-audit
unfolding faults_from
returns-clause-audit c = record { stores = refl; faults = c.new.ensures.items; branches = λ none. c.new-2.ensures }
