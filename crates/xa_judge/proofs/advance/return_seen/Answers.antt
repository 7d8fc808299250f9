use Rattle.std.proofs.Common.{◌≡◌, true, subst, rules, tests}
use Rattle.xa_judge.proofs.Advances.{AreAnswersIn, advance_return}
use Rattle.xa_judge.proofs.advance.return_seen.Goals as goal

pub returns : goal.returns
returns c =
    let is_closed : c.in_ok-is_closed.is_closed ≡ true = search (rules, tests) in
    advance_return c.args.known.items c.close.new.known.items c.in_ok-settled.settled.items
    c.in_ok-answers.answers.items c.args.returning c.args.event.now
    c.args.limit c.in_ok-next.next c.requires
    c.in_ok-is_closed.ensures.grows (c.in_ok-is_closed.ensures.closed is_closed) c.in_ok-settled.ensures.has
    c.in_ok-settled.ensures.reach
    (subst (λ l. AreAnswersIn l c.args.returning c.in_ok-answers.answers.items) c.as_slice.ensures.value
    (record { each = c.in_ok-answers.ensures.each; all = c.in_ok-answers.ensures.all }))
    (record { reached = c.in_ok-is_closed.ensures.only; settled = c.in_ok-settled.ensures.only })
    c.in_ok-next.ensures
