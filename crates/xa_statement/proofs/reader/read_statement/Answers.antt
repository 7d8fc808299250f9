use Rattle.xa_statement.proofs.Faults.{seen_spelled, seen_fault, spelled_seen, fault_seen}
use Rattle.xa_statement.proofs.reader.read_statement.Goals as goal

pub returns : goal.returns
returns c =
    let text = c.args.text.now in
    let seen = c.read_any.result in
    let e = c.read_any.ensures in record {
      value = e;
      spelled = seen_spelled text seen e;
      complete = spelled_seen text seen e;
      fault = seen_fault text seen e;
      only_fault = fault_seen text seen e;
    }
