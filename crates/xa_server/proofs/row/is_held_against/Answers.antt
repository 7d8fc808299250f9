use Rattle.std.proofs.Common.{None}
use Rattle.xa_server.proofs.Holders.{held_against-lock}
use Rattle.xa_server.proofs.row.is_held_against.Goals as goal

pub returns-in-None : goal.returns-in-None
returns-in-None c = rw c.in-None.is (held_against-lock c.args.association.now None)
