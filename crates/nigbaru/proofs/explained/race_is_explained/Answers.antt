use Rattle.nigbaru.proofs.OverlapOutcomes.{outcome_explained}
use Rattle.nigbaru.proofs.explained.race_is_explained.Goals as goal

pub returns : goal.returns
returns c = λ base runs outcome lines legal fresh few own are. outcome_explained base runs outcome lines legal fresh own
    are few
