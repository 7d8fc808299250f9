use Rattle.std.proofs.Common.{refl}
use Rattle.xa_server.specs.Parts.{parted}
use Rattle.xa_server.proofs.runs.Runs.new.Goals as goal

pub returns : goal.returns
unfolding parted
returns c = refl
