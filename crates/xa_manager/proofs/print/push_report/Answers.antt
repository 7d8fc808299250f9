use Rattle.std.proofs.{Common.{codes, decimal}, lemmas.Result.on_ok_weaker}
use Rattle.xa_manager.proofs.Printing.{three_grown}
use Rattle.xa_manager.proofs.print.push_report.Goals as goal

pub returns : goal.returns
returns c =
    on_ok_weaker c.push_count-3.result
    (λ last.
    three_grown c.args.text.now.items c.push_count.new.text.items c.push_count-2.new.text.items
    c.push_count-3.new.text.items
    (codes "RECOVERED committed ") (decimal c.args.report.now.committed) (codes " rolled back ")
    (decimal c.args.report.now.rolled_back)
    (codes " missing ") (decimal c.args.report.now.missing) c.in_ok-push_count.ensures c.in_ok-push_count-2.ensures
    last)
    c.push_count-3.ensures
