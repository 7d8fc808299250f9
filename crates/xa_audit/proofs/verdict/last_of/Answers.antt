use Rattle.std.proofs.{Common.{ap, sym, ◌∙◌, take, slice_index_or}, lemmas.List.take_more}
use Rattle.xa_audit.{specs.{declared.ends.End.TheVariants.Committed, Globals.last_end}, proofs.Lists.last_more}
use Rattle.xa_audit.proofs.verdict.last_of.Goals as goal

pub loop-end-preserved : goal.loop-end-preserved
loop-end-preserved c =
    sym (last_more (take c.loop-end.end-index c.args.ends.now)
    (slice_index_or c.args.ends.now c.loop-end.end-index Committed))
    ∙ ap last_end (sym (take_more c.args.ends.now c.loop-end.end-index Committed c.loop-end-test.true))
