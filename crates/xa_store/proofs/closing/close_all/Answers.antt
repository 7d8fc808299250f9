use Rattle.std.{proofs.{Common.{◌≡◌, ◌∙◌, map, ap, sym, subst}, lemmas.List.Elements.All-map}, specs.List.All}
use Rattle.xa_store.{specs.{Closed.HasClosed, Passes.{identity_of, log_of}}, proofs.Leaves.closes}
use Rattle.xa_store.proofs.Spreading.{map_twice}
use Rattle.xa_store.proofs.closing.close_all.Goals as goal

pub close-requires : goal.close-requires
close-requires g c =
    subst (λ sessions. All (λ session. log_of session.pass ≡ identity_of c.args.store.now.log) sessions)
    (sym c.in_ok-sessions.ensures.sessions)
    (All-map (λ session. log_of session.pass ≡ identity_of c.args.store.now.log)
    (λ one. one.session) c.args.returned.items c.requires)

pub returns-in-Ok-clause-closed : goal.returns-in-Ok-clause-closed
returns-in-Ok-clause-closed g c =
    let identity = identity_of c.args.store.now.log in
    let told = c.in-Ok.ensures in
    subst (λ old. HasClosed identity old c.in-Ok.history.items c.in-Ok.passes.items)
    (ap (map (λ session. session.pass)) c.in_ok-sessions.ensures.sessions
    ∙ map_twice (λ one. one.session) (λ session. session.pass) c.args.returned.items)
    (closes (λ session. session.pass) identity c.in_ok-sessions.sessions.items c.in-Ok.history.items
    c.in-Ok.passes.items told.passes told.last told.whole
    told.gathered)
