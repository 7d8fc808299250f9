use Rattle.std.proofs.Common.{◌∙◌, length, vec_len, ap, refl, sym, inr}
use Rattle.xa_manager.{specs.declared.stage.Stage.TheVariants.Over, proofs.States.{same_whole, kept_as, ready_as}}
use Rattle.xa_manager.proofs.{Stages.{with_stage-length, kept_over, ready_over, kept_voted}, Said.agreed_logs}
use Rattle.xa_manager.proofs.manager.Manager.finish.Goals as goal

pub finish-requires-clause-name : goal.finish-requires-clause-name
finish-requires-clause-name g c =
    let is =
    kept_voted (vec_len c.args.self.now.coordinator.stores) c.args.self.now.ledger c.args.number c.in-Ok.prepared
    c.args.self.now.kept
    c.in-Ok.ensures.taken in
    is.name ∙ sym c.args.self.now.named

pub finish-requires-clause-stores : goal.finish-requires-clause-stores
finish-requires-clause-stores g c =
    let is =
    kept_voted (vec_len c.args.self.now.coordinator.stores) c.args.self.now.ledger c.args.number c.in-Ok.prepared
    c.args.self.now.kept
    c.in-Ok.ensures.taken in
    is.stores

pub invariant_of-self : goal.invariant_of-self
invariant_of-self g c =
    let was = c.args.self.now in
    record {
      named = ap (λ name. name.items) c.finish.ensures.name ∙ was.named;
      pairs = was.pairs ∙ sym c.finish.ensures.count;
      counted = ap length c.in-Ok.ensures.over ∙ with_stage-length was.ledger c.args.number Over ∙ was.counted;
      kept = kept_as _ _ _ _ c.finish.ensures.count c.in-Ok.ensures.over
          (kept_over (vec_len was.coordinator.stores) was.ledger c.args.number was.kept);
      ready = ready_as _ _ c.in-Ok.ensures.over (ready_over was.ledger c.args.number was.ready);
    }

pub returns-in-Ok : goal.returns-in-Ok
returns-in-Ok g c =
    let was = c.args.self.now in
    let is = kept_voted (vec_len was.coordinator.stores) was.ledger c.args.number c.in-Ok.prepared was.kept
    c.in-Ok.ensures.taken in
    inr (record {
      prepared = c.in-Ok.prepared;
      voted = c.in-Ok.ensures.taken;
      of_number = is.number;
      ends = record {
        ending = c.finish.result;
        told = refl;
        ends = rw (← is.number) c.finish.ensures.ends;
        marks = c.finish.ensures.elsewhere;
        alone = record {
          logs = agreed_logs g.C.Speak.view was.decisions was.coordinator.name.items was.coordinator.stores.items
              c.finish.new.self.stores.items
              c.finish.ensures.agrees;
          count = sym c.finish.new.self.stores.ok.0 ∙ c.finish.ensures.count ∙ was.coordinator.stores.ok.0;
          stands = same_whole _ _ _ _ _ _ _ _ _ c.finish.ensures.count refl c.in-Ok.ensures.over;
        };
      };
    })
