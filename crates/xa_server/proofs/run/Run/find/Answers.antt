use Rattle.std.proofs.Common.{◌∙◌}
use Rattle.xa_server.proofs.Underlying.{found_run}
use Rattle.xa_server.proofs.run.Run.find.Goals as goal

pub returns : goal.returns
returns c =
    c.find_in.ensures
    ∙ found_run c.rows.result c.args.self.now c.args.key.now c.rows.ensures.ordered c.rows.ensures.seen
