use Rattle.decision_log.proofs.MachineLaw.{runs_end_in_states}
use Rattle.decision_log.proofs.laws.what_happens_leads_to_states.Goals as goal

pub returns : goal.returns
returns c = runs_end_in_states
