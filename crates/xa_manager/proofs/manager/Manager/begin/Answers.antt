use Rattle.std.proofs.Common.{◌≡◌, ◌∙◌, ◌+◌, ◌∷◌, [], length, length-append, vec_len, ap, refl, sym, inl}
use Rattle.xa_coordinator.specs.declared.decisions.Decision.TheVariants.{Undecided}
use Rattle.xa_manager.specs.declared.{stage.Stage.TheVariants.Working, response.Response.TheVariants.Begun}
use Rattle.xa_manager.{specs.Ledger.IsTransactionOf, proofs.Stages.{kept_more, ready_more}}
use Rattle.xa_manager.proofs.States.{same_whole, kept_as, ready_as, working_kept, begun_on}
use Rattle.xa_manager.proofs.manager.Manager.begin.Goals as goal

pub invariant_of-self-in-Ok : goal.invariant_of-self-in-Ok
invariant_of-self-in-Ok g c =
    let was = c.args.self.now in
    let begun = Working c.in-Ok.transaction in
    let number : c.number-number.result ≡ length was.ledger + 1 =
    c.number-number.ensures ∙ c.in-Ok.ensures.number ∙ ap (λ n. n + 1) (sym was.counted) in
    let on = begun_on was.ledger c.number-number.result begun c.add.new.self c.put.new.self number
    c.in_ok-add.ensures.ok c.put.ensures in
    let one = c.in-Ok.ensures.number ∙ ap (λ n. n + 1) (sym was.counted) in
    let is : IsTransactionOf (vec_len was.coordinator.stores) (length was.ledger + 1) c.in-Ok.transaction =
    record {
      number = one;
      name = ap (λ name. name.items) c.in-Ok.ensures.name
          ∙ was.named;
      stores = c.in-Ok.ensures.stores;
    } in
    record {
      named = was.named;
      pairs = was.pairs;
      counted =
          ap length on ∙ length-append was.ledger (begun ∷ []) ∙ ap (λ n. n + 1) was.counted
          ∙ sym (length-append was.decisions (Undecided ∷ []))
          ∙ sym (ap length c.in-Ok.ensures.undecided);
      kept = kept_as _ _ _ _ refl on (kept_more (vec_len was.coordinator.stores) was.ledger begun was.kept
          (working_kept _ _ _ is));
      ready = ready_as _ _ on (ready_more was.ledger begun was.ready (λ prepared same. absurd (cc)));
    }

pub returns-in-Ok-clause-answers : goal.returns-in-Ok-clause-answers
returns-in-Ok-clause-answers g c =
    let was = c.args.self.now in
    let begun = Working c.in-Ok.transaction in
    let number : c.number-number.result ≡ length was.ledger + 1 =
    c.number-number.ensures ∙ c.in-Ok.ensures.number ∙ ap (λ n. n + 1) (sym was.counted) in
    let on = begun_on was.ledger c.number-number.result begun c.add.new.self c.put.new.self number
    c.in_ok-add.ensures.ok c.put.ensures in
    let one = c.in-Ok.ensures.number ∙ ap (λ n. n + 1) (sym was.counted) in
    inl (record {
      transaction = c.in-Ok.transaction;
      named = record {
        number = one;
        name = ap (λ name. name.items) c.in-Ok.ensures.name
            ∙ was.named;
        stores = c.in-Ok.ensures.stores;
      };
      nobody = c.in-Ok.ensures.nobody;
      told = ap (λ n. Begun n) number;
      stands = same_whole _ _ _ _ _ _ _ _ _ refl c.in-Ok.ensures.undecided on;
    })
