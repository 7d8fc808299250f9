use Rattle.xa_endless.proofs.Coursing.{throughout}
use Rattle.xa_endless.proofs.laws.calls_keep_agreement.Goals as goal

pub returns : goal.returns
returns c = throughout
