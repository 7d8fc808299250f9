use Rattle.std.proofs.Common.{◌≡◌, true, rules, tests}
use Rattle.xa_judge.proofs.Advances.{advance_closed, counts_closed}
use Rattle.xa_judge.proofs.advance.closed_seen.Goals as goal

pub returns : goal.returns
returns c =
    let is_closed : c.in_ok-is_closed.is_closed ≡ true = search (rules, tests) in
    advance_closed c.args.known.items c.close.new.known.items c.new.result.items c.args.event.now c.args.limit
    c.in_ok-next.next c.requires.no_return
    c.in_ok-is_closed.ensures.grows (c.in_ok-is_closed.ensures.closed is_closed) c.new.ensures.items
    (counts_closed c.args.known.items c.close.new.known.items c.args.event.now c.requires.no_return c.requires.widens
    c.in_ok-is_closed.ensures.only)
    c.in_ok-next.ensures
