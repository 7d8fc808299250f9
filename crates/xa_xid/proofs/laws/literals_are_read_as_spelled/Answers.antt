use Rattle.xa_xid.proofs.{Identifiers.one_text, Spelled.read_spelled, Spelling.spelled_read}
use Rattle.xa_xid.proofs.laws.literals_are_read_as_spelled.Goals as goal

pub returns : goal.returns
returns c = record { sound = read_spelled; complete = spelled_read; only_one = one_text }
