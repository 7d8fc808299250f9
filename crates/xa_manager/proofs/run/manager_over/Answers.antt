use Rattle.std.proofs.Common.{◌≡◌, ◌∙◌, List, false, map, ap, sym, subst, rules}
use Rattle.std.{proofs.lemmas.List.Elements.recursion_from_All, specs.List.{AllZip, AllByRecursion}}
use Rattle.decision_log.specs.Known.{newcomer}
use Rattle.xa_server.specs.State.{no_state}
use Rattle.xa_store.specs.Passes.{Pass, known_of}
use Rattle.xa_manager.{specs.Whole.IsPair, proofs.Passes.{IsOwn, seen_as, pairs_of, fused_pairs, map_within}}
use Rattle.xa_manager.proofs.run.manager_over.Goals as goal

pub returns-clause-sessions : goal.returns-clause-sessions
returns-clause-sessions c =
    let fused = c.in_ok-sessions-2.sessions.items in
    let made : c.new.result.coordinator.stores.items ≡ fused = ap (λ stores. stores.items) c.new.ensures.sessions in
    ap (map (λ session. session.inner.pass)) made ∙ map_within (λ session. session.inner)
    (λ session. session.pass) fused
    ∙ ap (map (λ session. session.pass)) c.in_ok-sessions-2.ensures.within ∙ c.in_ok-sessions.ensures.passes

pub returns-clause-begins : goal.returns-clause-begins
returns-clause-begins c = λ new.
    let stores = c.args.stores.now in
    let sessions = c.in_ok-sessions.sessions.items in
    let others = c.in_ok-other_clients.other_clients.items in
    let fused = c.in_ok-sessions-2.sessions.items in
    let Own : List Pass → Type 0 = λ passes. AllZip IsOwn stores passes in
    let First : List Pass → Type 0 = λ passes. AllByRecursion (λ p. known_of p ≡ newcomer 1) passes in
    let Second : List Pass → Type 0 = λ passes. AllByRecursion (λ p. known_of p ≡ newcomer 2) passes in
    let pairs =
    pairs_of false stores sessions others (λ session. session.pass) (λ session. session.base.now)
    (λ session. session.pass) (λ session. session.base.now)
    (subst Own (sym c.in_ok-sessions.ensures.passes) c.requires.first)
    (subst Own (sym c.in_ok-other_clients.ensures.passes) c.requires.second)
    c.in_ok-sessions.ensures.bases c.in_ok-other_clients.ensures.bases
    (recursion_from_All (λ store. store.base ≡ no_state) stores new.empty)
    (subst First (sym c.in_ok-sessions.ensures.passes) (recursion_from_All
    (λ p. known_of p ≡ newcomer 1) c.args.firsts.items new.first))
    (subst Second (sym c.in_ok-other_clients.ensures.passes)
    (recursion_from_All (λ p. known_of p ≡ newcomer 2) c.args.seconds.items new.second)) in
    record {
      decisions = c.new.ensures.decisions;
      stages = c.new.ensures.ledger;
      anew = search rules;
      pairs =
          fused_pairs sessions others c.new.result.other_clients.items fused c.new.result.coordinator.stores.items
          (λ session other. IsPair (seen_as false session.pass session.base.now)
          (seen_as false other.pass other.base.now))
          c.in_ok-sessions-2.ensures.within (ap (λ stores. stores.items) c.new.ensures.sessions)
          (ap (λ list. list.items) c.new.ensures.other_clients) pairs;
    }
