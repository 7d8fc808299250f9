use Rattle.xa_record.proofs.RowTexts.{rows_kept-more}
use Rattle.xa_record.proofs.events.rows_in.Goals as goal

pub loop-text-preserved : goal.loop-text-preserved
loop-text-preserved c =
    rows_kept-more c.args.texts.now c.loop-text.rows.items c.push_row.new.rows.items c.loop-text.text-index _
    c.loop-text-test.true c.loop-text.invariant
    c.in_ok-push_row.ensures
