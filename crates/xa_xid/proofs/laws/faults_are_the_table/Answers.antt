use Rattle.xa_xid.proofs.Identifiers.{read_faulty_xid, faulty_xid_read}
use Rattle.xa_xid.proofs.{Numerals.{read_faulty_number, faulty_number_read}, Spelled.{read_faulty, faulty_read}}
use Rattle.xa_xid.proofs.laws.faults_are_the_table.Goals as goal

pub returns : goal.returns
returns c = record {
  literal = λ text fault. (read_faulty text fault, faulty_read text fault);
  number = λ text fault. (read_faulty_number text fault, faulty_number_read text fault);
  xid = λ text fault rest. (read_faulty_xid text fault rest, faulty_xid_read text fault rest);
}
