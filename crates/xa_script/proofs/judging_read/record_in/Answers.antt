use Rattle.xa_script.proofs.RecordsRead.{all_read}
use Rattle.xa_script.proofs.judging_read.record_in.Goals as goal

pub returns-clause-all : goal.returns-clause-all
returns-clause-all g c = all_read _ _ _ _ c.new-following.ensures c.in_ok-record.ensures.all c.in_ok-record.ensures.end
