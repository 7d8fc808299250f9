use Rattle.std.proofs.Common.{vec_len}
use Rattle.xa_store.proofs.closing.+part.Given as goal

abbrev pub decreases-part : goal.decreases-part
decreases-part g l = vec_len l.returned
