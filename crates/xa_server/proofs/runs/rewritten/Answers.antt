use Rattle.xa_server.proofs.{Outcomes.if_ok, Parted.part_with}
use Rattle.xa_server.proofs.runs.rewritten.Goals as goal

pub returns : goal.returns
returns c =
    if_ok c.with.result c.with.ensures
    (λ made is. part_with c.args.rows.items _ c.args.part.now made c.requires c.in_ok-of.ensures is)
