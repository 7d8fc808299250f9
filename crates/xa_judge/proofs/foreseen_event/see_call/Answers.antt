use Rattle.std.proofs.Common.{◌≡◌, false, subst, rules, tests}
use Rattle.xa_judge.{specs.{Explained.Config, Found.Has, Late.has_unheard}, proofs.ForeseenAdvances.needs_none}
use Rattle.xa_judge.proofs.foreseen_event.see_call.Goals as goal

pub see_open-requires-clause-needs : goal.see_open-requires-clause-needs
see_open-requires-clause-needs c =
    needs_none c.args.known.items c.args.session c.args.event.now c.requires.call
    (subst (λ l. (one : Config) → Has l one → has_unheard one c.args.session ≡ false) c.as_slice.ensures.value
    (c.none_unheard.ensures.none (search (rules, tests))))
