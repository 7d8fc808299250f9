use Rattle.xa_server.{specs.Layers.kept_write, proofs.{Outcomes.if_ok, Underlying.{sorted_over, merged_run}}}
use Rattle.xa_server.proofs.run.Run.over.Goals as goal

pub of_packed-requires : goal.of_packed-requires
of_packed-requires c =
    sorted_over (kept_write c.args.is_last) c.rows.result c.rows-2.result _
    c.rows.ensures.ordered c.rows-2.ensures.ordered c.in_ok-merge.ensures

pub returns : goal.returns
returns c =
    if_ok c.of_packed.result c.of_packed.ensures (λ run is key.
    merged_run c.args.is_last c.rows.result c.rows-2.result _ c.args.self.now c.args.older.now run key
    c.rows.ensures.ordered c.rows-2.ensures.ordered c.in_ok-merge.ensures c.rows.ensures.seen c.rows-2.ensures.seen is)
