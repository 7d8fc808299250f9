use Rattle.xa_xid.proofs.Written.{xid_back}
use Rattle.xa_xid.proofs.laws.written_xid_is_read_back.Goals as goal

pub returns : goal.returns
returns c = λ rest s. xid_back c.args.xid.now rest c.is_writable.ensures s
