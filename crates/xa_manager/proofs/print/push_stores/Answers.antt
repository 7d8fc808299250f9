use Rattle.std.proofs.{Common.{◌≡◌, ◌++◌, ◌∙◌, ap, get_or, codes, decimal}, lemmas.List.get_or_default}
use Rattle.xa_manager.proofs.Printing.{stores_grown}
use Rattle.xa_manager.proofs.print.push_stores.Goals as goal

pub loop-store-preserved : goal.loop-store-preserved
loop-store-preserved c =
    let store = get_or c.args.stores.now c.loop-store.store-index 0 in
    let told : c.push_numbered.new.text.items ≡ c.loop-store.text.items ++ (codes " " ++ decimal c.from.result) =
    c.in_ok-push_numbered.ensures in
    let step : c.push_numbered.new.text.items ≡ c.loop-store.text.items ++ (codes " " ++ decimal store) =
    told ∙ ap (λ n. c.loop-store.text.items ++ (codes " " ++ decimal n)) c.from.ensures in
    stores_grown c.args.stores.now c.loop-store.store-index store c.args.text.now.items c.loop-store.text.items
    c.push_numbered.new.text.items
    c.loop-store-test.true (get_or_default c.args.stores.now c.loop-store.store-index 0 store c.loop-store-test.true)
    c.loop-store.invariant step
