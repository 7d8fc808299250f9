use Rattle.xa_server.proofs.Listing.{prepared_ascend, prepared_exactly}
use Rattle.xa_server.proofs.laws.recovered_list_is_exact.Goals as goal

pub returns-clause-ascending : goal.returns-clause-ascending
returns-clause-ascending c = prepared_ascend

pub returns-clause-exact : goal.returns-clause-exact
returns-clause-exact c = prepared_exactly
