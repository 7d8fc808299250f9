use Rattle.std.{proofs.Common.{ap, ◌∙◌, get_or}, specs.Prelude.None}
use Rattle.xa_audit.proofs.Lists.{one_more_place}
use Rattle.xa_audit.proofs.owned.make_place.Goals as goal

pub loop-session-preserved : goal.loop-session-preserved
loop-session-preserved c =
    λ at. ap (λ places. get_or places at None) c.in_ok-push.ensures.items
    ∙ one_more_place None c.loop-session.places.items at ∙ c.loop-session.invariant at
