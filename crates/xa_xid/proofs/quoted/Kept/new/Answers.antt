use Rattle.xa_xid.proofs.Texts.{kept_none}
use Rattle.xa_xid.proofs.quoted.Kept.new.Goals as goal

pub returns : goal.returns
returns c = kept_none c.new.result c.new.ensures
