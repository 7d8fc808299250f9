use Rattle.xa_record.proofs.RowsLeft.{named_made}
use Rattle.xa_record.proofs.state_reading.made.Goals as goal

pub returns : goal.returns
returns c =
    named_made c.new-server.result c.take_rows.new.server c.take_branches.new.server c.take_branches-2.new.server
    c.new-keys.result.items c.take_rows.new.keys.items c.new-server.ensures c.in_ok-take_rows.ensures
    c.in_ok-take_branches.ensures c.in_ok-take_branches-2.ensures
