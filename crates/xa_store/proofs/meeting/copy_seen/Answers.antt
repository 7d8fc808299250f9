use Rattle.std.proofs.Common.{◌≡◌, suc, ◌+◌, [], ◌∷◌, ◌++◌, take, slice_get, ap, sym, ◌∙◌, Some, arith}
use Rattle.xa_session.proofs.Replaying.{take-next}
use Rattle.xa_store.proofs.meeting.copy_seen.Goals as goal

pub loop-at-preserved : goal.loop-at-preserved
loop-at-preserved g c =
    let inv = c.loop-at.invariant in
    let told = c.entry.ensures in
    let known = inv.2 in
    let seen = (g.L.DecisionLog.known c.args.session.now.pass).seen in
    let next : suc c.loop-at.at ≡ c.loop-at.at + 1 = omega arith in
    let here : slice_get seen c.loop-at.at ≡ Some c.entry.result =
    ap (λ k. slice_get k.seen c.loop-at.at) (sym known) ∙ told.entry in (
      told.base ∙ inv.0,
      told.belongs ∙ inv.1,
      told.same ∙ known,
      c.in_ok-push.ensures.items ∙ ap (λ list. list ++ c.entry.result ∷ []) inv.3
          ∙ sym (take-next seen c.loop-at.at c.entry.result here)
          ∙ ap (λ n. take n seen) next,
    )
