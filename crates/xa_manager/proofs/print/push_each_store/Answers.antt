use Rattle.xa_manager.proofs.Printing.{shown_grown}
use Rattle.xa_manager.proofs.print.push_each_store.Goals as goal

pub loop-store-preserved : goal.loop-store-preserved
loop-store-preserved c =
    shown_grown c.args.answers.now c.loop-store.store c.index-answers-store.result c.args.text.now.items
    c.loop-store.text.items c.push_store.new.text.items
    c.loop-store-test.true c.index-answers-store.is c.loop-store.invariant c.in_ok-push_store.ensures
