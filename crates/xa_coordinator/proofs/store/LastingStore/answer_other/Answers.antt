use Rattle.std.{proofs.Common.{◌≡◌, ℕ, [], ◌∷◌, refl, ap, subst, map, arith}, specs.Prelude.IfOk}
use Rattle.xa_coordinator.{specs.Watched.Serves, proofs.Served.{after_serving, other_knows, served}}
use Rattle.xa_coordinator.proofs.store.LastingStore.answer_other.Goals as goal

abbrev number : ℕ
number = 2

apart : number ≡ 1 → ⊥
apart is = absurd (omega (arith, is))

pub invariant_of-self : goal.invariant_of-self
invariant_of-self c =
    let store = c.args.self.now in
    let history = map (λ one. one.value) store.history.items in
    let history' = map (λ one. one.value) c.serve.new.history.items in
    let all =
    after_serving 2 1 c.args.statement.now c.serve.result store.first.value store.server c.serve.new.server history
    history' store.other c.serve.new.watch
    store.own
    (subst (λ n. IfOk c.serve.result
    (λ answer. Serves n c.args.statement.now answer store.server history store.other c.serve.new.server history'
    c.serve.new.watch))
    c.in-Some.ensures.number c.serve.ensures.ok)
    c.serve.ensures.server c.serve.ensures.history c.serve.ensures.watch apart store.stands store.other_seen
    store.own_seen (omega arith, omega arith) store.entered in
    record { lawful = store.lawful; stands = all.0; own_seen = all.2; other_seen = all.1; entered = all.3 }

pub returns-in-Ok-clause-answered : goal.returns-in-Ok-clause-answered
returns-in-Ok-clause-answered c =
    let store = c.args.self.now in
    let history = map (λ one. one.value) store.history.items in
    let history' = map (λ one. one.value) c.serve.new.history.items in
    let serves : Serves 2 c.args.statement.now c.in-Ok.answer store.server history store.other c.serve.new.server
    history' c.serve.new.watch =
    subst (λ n. Serves n c.args.statement.now c.in-Ok.answer store.server history store.other c.serve.new.server
    history' c.serve.new.watch)
    c.in-Some.ensures.number c.in-Ok.ensures.ok in
    record {
      stays = record {
        identity = refl;
        turns = refl;
        base = refl;
        beside = ap (λ known. known ∷ [])
            (other_knows 2 c.args.statement.now c.in-Ok.answer store.first.value store.server c.serve.new.server history
            history' store.other
            c.serve.new.watch serves 1 store.own apart store.own_seen);
        left = refl;
        starved = λ same. same;
      };
      answered = served 2 c.args.statement.now c.in-Ok.answer store.first.value store.server c.serve.new.server history
          history' store.other
          c.serve.new.watch serves store.stands;
    }
