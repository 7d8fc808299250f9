use Rattle.xa_endless.proofs.Standing.{stands_first}
use Rattle.std.proofs.Common.{refl}
use Rattle.xa_endless.proofs.replica.Replica.new.Goals as goal

pub returns-clause-stands : goal.returns-clause-stands
returns-clause-stands c = λ seen. stands_first seen _ c.new.ensures refl
