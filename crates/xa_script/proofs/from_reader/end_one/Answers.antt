use Rattle.xa_script.proofs.from_reader.end_one.Goals as goal

pub returns : goal.returns
returns g c = record {
  done = c.write_as_asked-done.result;
  faulty = c.faults_seen.result;
  own = c.write_as_asked-done.ensures;
  unlooked = c.faults_seen.ensures;
  ends = c.looked_at.ensures;
}
