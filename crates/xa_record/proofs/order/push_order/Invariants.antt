use Rattle.std.proofs.Common.{◌≡◌, ◌++◌, map, drop}
use Rattle.xa_record.specs.{Kept.{numbered_kept, calls_kept}, VerdictText.{order_text, no_calls}}
use Rattle.xa_record.proofs.order.push_order.Given as goal

abbrev pub invariant-loop-step : goal.invariant-loop-step
invariant-loop-step l =
    l.fn.out.items ++ order_text no_calls (map numbered_kept l.numbered) l.moves
    ≡ l.out.items ++ order_text (calls_kept (map numbered_kept l.numbered) l.calls)
    (drop l.place (map numbered_kept l.numbered)) (drop l.step-index l.moves)
