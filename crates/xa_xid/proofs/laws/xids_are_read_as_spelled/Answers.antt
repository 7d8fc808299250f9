use Rattle.xa_xid.proofs.Identifiers.{read_xid_spelled, spelled_xid_read, one_xid}
use Rattle.xa_xid.proofs.laws.xids_are_read_as_spelled.Goals as goal

pub returns : goal.returns
returns c = record { sound = read_xid_spelled; complete = spelled_xid_read; only_one = one_xid }
