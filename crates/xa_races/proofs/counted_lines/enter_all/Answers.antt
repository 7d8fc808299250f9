use Rattle.std.{proofs.{Common.{◌≡◌, sym, subst}, lemmas.List.Elements.All-push}, specs.List.All}
use Rattle.xa_endless.specs.declared.session.EndlessSession.{EndlessSession}
use Rattle.xa_races.proofs.counted_lines.enter_all.Goals as goal

pub loop-index-preserved : goal.loop-index-preserved
loop-index-preserved c =
    let Mine : EndlessSession → Type 0 = λ session. session.store.value ≡ c.args.store.now.value in
    subst (All Mine) (sym c.in_ok-push.ensures.items)
    (All-push Mine c.loop-index.sessions.items c.in-Ok.session c.loop-index.invariant c.in-Ok.ensures.store)
