use Rattle.std.proofs.{Common.{sym, subst}, lemmas.Result.IfOk-weaker}
use Rattle.xa_judge.specs.{Late.IsReady, Found.Has, Advances.{IsSeenFrom, AreAnswers, IsAdvance}}
use Rattle.xa_judge.proofs.{Waits.CanWait, Advances.advance_now}
use Rattle.xa_judge.proofs.advance.see_event.Goals as goal

pub returns-in-Lost : goal.returns-in-Lost
returns-in-Lost c =
    IfOk-weaker c.seen.result (IsSeenFrom c.args.known.items c.new.result.items c.args.event.now)
    (IsAdvance c.args.known.items c.args.event.now c.args.limit)
    (λ next seen. advance_now c.args.known.items c.new.result.items c.args.event.now c.args.limit next
    (λ config has. subst (CanWait config) (sym c.in-Lost.is) tt)
    (λ config has. subst (λ e. IsReady (Has c.args.known.items) e config) (sym c.in-Lost.is) has)
    (subst (λ e. AreAnswers c.args.known.items e c.new.result.items) (sym c.in-Lost.is) c.new.ensures.items) seen)
    c.seen.ensures
