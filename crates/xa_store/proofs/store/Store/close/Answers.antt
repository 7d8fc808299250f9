use Rattle.std.proofs.{Common.{◌≡◌, ◌<◌, map, ap, sym, subst, ◌∙◌, arith}, lemmas.List.length-map}
use Rattle.std.{proofs.lemmas.List.Elements.{All-map, length_all_zip}, specs.List.{All, AllZip}}
use Rattle.xa_store.specs.{Passes.{identity_of, log_of, known_of}, Gathered.{IsTakenIn, AddsNothing, last_known}}
use Rattle.xa_store.proofs.{Spreading.{zip_mapped, map_twice}, Gathering.all_kept}
use Rattle.xa_store.proofs.store.Store.close.Goals as goal

pub returns-in_ok-passes-in-Ok-clause-passes : goal.returns-in_ok-passes-in-Ok-clause-passes
returns-in_ok-passes-in-Ok-clause-passes c =
    subst (λ passes. AllZip (λ session pass. (log_of pass ≡ log_of session.pass)
    × AddsNothing (known_of session.pass) (known_of pass)) c.args.sessions.items
    passes) (sym c.in_ok-passes-in-Ok.ensures.ok)
    (zip_mapped _ (λ session pass. (log_of pass ≡ log_of session.pass)
    × AddsNothing (known_of session.pass) (known_of pass)) (λ session. session.pass)
    (λ old new is. (is.1, is.2)) c.args.sessions.items c.history.new.sessions.items c.in-Ok.ensures.keeps)

pub returns-in_ok-passes-in-Ok-clause-last : goal.returns-in_ok-passes-in-Ok-clause-last
returns-in_ok-passes-in-Ok-clause-last c =
    c.in-Ok.ensures.last ∙ ap (λ list. (last_known list).seen)
    (sym (map_twice (λ session. session.pass) known_of c.history.new.sessions.items))
    ∙ ap (λ passes. (last_known (map known_of passes)).seen) (sym c.in_ok-passes-in-Ok.ensures.ok)

pub returns-in_ok-passes-in-Ok-clause-looked : goal.returns-in_ok-passes-in-Ok-clause-looked
returns-in_ok-passes-in-Ok-clause-looked c some =
    let before = (last_known (map (λ session. known_of session.pass) c.args.sessions.items)).looks in
    let after = (last_known (map (λ session. known_of session.pass) c.history.new.sessions.items)).looks in
    let same : after ≡ (last_known (map known_of c.in_ok-passes-in-Ok.passes.items)).looks =
    ap (λ list. (last_known list).looks)
    (sym (map_twice (λ session. session.pass) known_of c.history.new.sessions.items))
    ∙ ap (λ passes. (last_known (map known_of passes)).looks) (sym c.in_ok-passes-in-Ok.ensures.ok) in
    subst (λ n. before < n) same (c.in-Ok.ensures.looked some)

pub returns-in_ok-passes-in-Ok-clause-whole : goal.returns-in_ok-passes-in-Ok-clause-whole
returns-in_ok-passes-in-Ok-clause-whole c =
    subst (λ passes. All (λ pass. IsTakenIn c.in-Ok.history.items (known_of pass)) passes)
    (sym c.in_ok-passes-in-Ok.ensures.ok)
    (All-map (λ pass. IsTakenIn c.in-Ok.history.items (known_of pass))
    (λ session. session.pass) c.history.new.sessions.items c.in-Ok.ensures.whole)

pub returns-in_ok-passes-in-Ok-clause-gathered : goal.returns-in_ok-passes-in-Ok-clause-gathered
returns-in_ok-passes-in-Ok-clause-gathered c some =
    let kept = c.in-Ok.ensures.keeps in
    let before = c.args.sessions.items in
    let now = c.history.new.sessions.items in
    let identity = identity_of c.args.self.now.log in
    let long = length_all_zip _ before now kept in
    rw c.in_ok-passes-in-Ok.ensures.ok
    (record {
      some = omega (arith, some, long, length-map now (λ session. session.pass));
      belongs =
          All-map (λ pass. log_of pass ≡ identity) (λ session. session.pass) now
          (all_kept _ (λ session. log_of session.pass ≡ identity) (λ session. log_of session.pass ≡ identity)
          (λ old new is belongs. is.1 ∙ belongs) before now kept c.requires);
      whole =
          subst (λ history. All (λ pass. IsTakenIn history (known_of pass)) (map (λ session. session.pass) now))
          (c.in-Ok.ensures.last ∙ ap (λ list. (last_known list).seen)
          (sym (map_twice (λ session. session.pass) known_of now)))
          (All-map (λ pass. IsTakenIn c.in-Ok.history.items (known_of pass))
          (λ session. session.pass) now c.in-Ok.ensures.whole);
    })
