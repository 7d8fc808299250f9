use Rattle.std.proofs.Common.{sym, ◌∙◌}
use Rattle.xa_server.proofs.Held.{rows_of-unknown}
use Rattle.xa_server.proofs.server.Server.rows_of.Goals as goal

pub returns-then-not-knows-clause-listed : goal.returns-then-not-knows-clause-listed
returns-then-not-knows-clause-listed c =
    c.new.ensures.items ∙ sym (rows_of-unknown c.args.self.now c.args.xid.now (sym c.if-not-knows.ensures))
