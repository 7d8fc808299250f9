use Rattle.std.proofs.Common.{◌∙◌, ◌++◌, ap}
use Rattle.xa_lines.{specs.Printed.row_text, proofs.Printed.rows_text-more}
use Rattle.xa_lines.proofs.print.push_rows.Goals as goal

pub loop-xid-preserved : goal.loop-xid-preserved
loop-xid-preserved c =
    rows_text-more c.args.convert c.args.xids.now c.loop-xid.xid-index c.xid-item.result c.args.text.now.items
    c.loop-xid.text.items _ c.loop-xid-test.true
    c.xid-item.is c.loop-xid.invariant
    (c.in_ok-push_row.ensures ∙ ap (λ text. text ++ row_text c.args.convert c.xid-item.result)
    c.in_ok-extend_from_slice.ensures.items)
