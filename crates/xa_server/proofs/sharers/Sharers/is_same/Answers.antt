use Rattle.xa_server.proofs.Sharing.{same_sharers}
use Rattle.xa_server.proofs.sharers.Sharers.is_same.Goals as goal

pub returns-then-has_all_of : goal.returns-then-has_all_of
returns-then-has_all_of c all =
    same_sharers c.args.self.now c.args.other.now (c.has_all_of-then-has_all_of.ensures all)
    (c.has_all_of.ensures c.if-has_all_of.true)
