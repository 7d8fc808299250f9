use Rattle.xa_xid.proofs.Numerals.{read_number_spelled, spelled_number_read, one_number}
use Rattle.xa_xid.proofs.laws.numbers_are_read_as_spelled.Goals as goal

pub returns : goal.returns
returns c = record { sound = read_number_spelled; complete = spelled_number_read; only_one = one_number }
