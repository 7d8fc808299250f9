use Rattle.std.{proofs.Common.{ap, None}, specs.Prelude.is_some}
use Rattle.xa_server.proofs.Holders.{mode_of-lock}
use Rattle.xa_server.proofs.row.is_held_by.Goals as goal

pub returns-in-None : goal.returns-in-None
returns-in-None c = rw c.in-None.is (ap is_some (mode_of-lock c.args.own.now None))
