use Rattle.std.proofs.{Common.arith, lemmas.Result.IfOk-weaker}
use Rattle.xa_races.proofs.Places.{only_none, same_entries}
use Rattle.xa_races.proofs.assembling.assembled.Goals as goal

pub returns : goal.returns
returns c list limit long all =
    let only =
    c.place_all.ensures.only list limit (only_none list limit c.in_ok-places.places.items c.in_ok-places.ensures.empty)
    all in
    IfOk-weaker c.entries_at.result _ _
    (λ entries is.
    same_entries entries.items list limit c.place_all.new.places.items is
    (omega (arith, c.place_all.ensures.count, c.in_ok-places.ensures.count, c.saturating_sub.ensures, long)) only)
    c.entries_at.ensures
