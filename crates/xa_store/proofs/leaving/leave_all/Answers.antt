use Rattle.std.proofs.{Common.{◌≡◌, ◌<◌, ◌∙◌, length, get_or, arith}, lemmas.Iterator.Adapters.YieldsList-from_vec}
use Rattle.std.proofs.lemmas.Iterator.Consumers.{YieldsList-turn}
use Rattle.xa_store.proofs.leaving.leave_all.Goals as goal

pub push_reserved-requires : goal.push_reserved-requires
push_reserved-requires c =
    let from = c.into_iter-session-iterator.ensures.into_iter_gives in
    let session = c.in-Some.session in
    let yielded = c.loop-session.yielded in
    let turn : (length yielded < length c.args.sessions.items)
    × (session ≡ get_or c.args.sessions.items (length yielded) session) =
    YieldsList-turn (YieldsList-from_vec {s = c.into_iter-session-iterator.result} c.args.sessions.items from.0
    (from.1 ∙ c.args.sessions.ok.0)) yielded
    c.loop-session.session-iterator c.loop-session.yielded_by c.next.result c.next.new.self session c.in-Some.is
    c.next.ensures.steps in
    omega (arith, turn.0, c.loop-session.invariant.1, c.loop-session.invariant.2)
