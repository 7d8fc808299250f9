use Rattle.std.{proofs.Common.{◌≡◌, Some, subst}, specs.{Prelude.{IfSome, slice_get}, List.Contains}}
use Rattle.xa_judge.specs.declared.{answer.Answer.Answer, client_state.ClientState.TheVariants.Answered}
use Rattle.xa_judge.specs.{Explained.Config, Found.{Has, IsAnsweredIn}, Verdicts.IsAnswerAfter}
use Rattle.xa_judge.proofs.foreseen.illegal_at.Goals as goal

pub refuted-requires-clause-all : goal.refuted-requires-clause-all
refuted-requires-clause-all c = λ answer after.
    let session = c.args.session in
    let first = c.split_at.result.0.now in
    let all = c.in_ok-all-in-Some.all.items in
    let known = c.in-Some.front.known.items in
    let kept : IsAnsweredIn known session answer =
    subst (λ o. IfSome o (λ front. (other : Answer) → IsAnswerAfter c.args.base.now first session other
    → IsAnsweredIn front.known.items session other)) c.in-Some.is c.in_ok-front_after.ensures answer after in
    let listed : Contains all answer =
    subst (λ l. (one : Config) (other : Answer) → Has l one
    → slice_get one.clients session ≡ Some (Answered other) → Contains all other) c.as_slice.ensures.value
    c.in_ok-all-in-Some.ensures.all kept.one answer kept.has kept.stands in
    subst (λ l. (other : Answer) → Contains l other → Contains c.in_ok-once-in-Some.once.items other)
    c.as_slice-in-Some.ensures.value c.in_ok-once-in-Some.ensures answer listed
