use Rattle.std.proofs.Common.{List, All, sym, subst}
use Rattle.std.proofs.lemmas.List.Elements.{All-push}
use Rattle.xa_manager.specs.{Calls.IsWritten, declared.call.Call.Call}
use Rattle.xa_manager.proofs.stops.read_calls.Goals as goal

pub loop-rest-preserved : goal.loop-rest-preserved
loop-rest-preserved c =
    let P : List Call → Type 0 = λ (list : List Call). All IsWritten list in
    subst P (sym c.in_ok-push.ensures.items)
    (All-push IsWritten c.loop-rest.calls.items c.call_in.result c.loop-rest.invariant c.call_in.ensures)
