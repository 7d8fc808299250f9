use Rattle.std.proofs.Common.{vec_len}
use Rattle.xa_store.proofs.spread.+spread.Given as goal

abbrev pub decreases-spread : goal.decreases-spread
decreases-spread g l = vec_len l.tasks
