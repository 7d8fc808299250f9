use Rattle.std.proofs.Common.{ap, ◌∙◌}
use Rattle.xa_server.{specs.Tables.opened_at, proofs.Index.one_place_more}
use Rattle.xa_server.proofs.branch_table.make_place.Goals as goal

pub loop-session-preserved : goal.loop-session-preserved
loop-session-preserved c =
    λ at. ap (λ opened. opened_at opened at) c.in_ok-push.ensures.items ∙ one_place_more c.loop-session.opened.items at
    ∙ c.loop-session.invariant at
