use Rattle.std.proofs.{Common.subst, lemmas.Result.IfOk-weaker}
use Rattle.xa_judge.specs.{Late.IsAnyUnheard, Found.Has, Advances.{IsSeenFrom, IsAdvance}}
use Rattle.xa_judge.proofs.Advances.{NoneUnheard, advance_call, widens_call}
use Rattle.xa_judge.proofs.advance.call_seen.Goals as goal

pub closed_seen-requires-clause-widens : goal.closed_seen-requires-clause-widens
closed_seen-requires-clause-widens c =
    widens_call c.args.known.items c.args.calling c.args.event.now c.requires
    (subst (λ l. IsAnyUnheard (Has l) c.args.calling) c.as_slice.ensures.value
    (c.none_unheard.ensures.some c.if-none_unheard.false))

pub returns-then-none_unheard : goal.returns-then-none_unheard
returns-then-none_unheard c =
    IfOk-weaker c.seen.result (IsSeenFrom c.args.known.items c.new.result.items c.args.event.now)
    (IsAdvance c.args.known.items c.args.event.now c.args.limit)
    (λ next seen. advance_call c.args.known.items c.new.result.items c.args.calling c.args.event.now c.args.limit next
    c.requires
    (subst (λ l. NoneUnheard l c.args.calling) c.as_slice.ensures.value
    (c.none_unheard.ensures.none c.if-none_unheard.true)) c.new.ensures.items seen)
    c.seen.ensures
