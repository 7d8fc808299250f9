use Rattle.std.proofs.Common.{[], ◌∙◌, length, vec_len, ap, refl, sym, inr}
use Rattle.xa_manager.{specs.declared.stage.Stage.TheVariants.{Working, Over}, proofs.Nothing.none_decided}
use Rattle.xa_manager.proofs.{Stages.{with_stage-length, kept_over, ready_over}, States.{same_whole, kept_as, ready_as}}
use Rattle.xa_manager.proofs.Said.{agreed_logs}
use Rattle.xa_manager.proofs.manager.Manager.abandon.Goals as goal

pub abandon-requires-clause-name : goal.abandon-requires-clause-name
abandon-requires-clause-name g c =
    let is = c.args.self.now.kept c.args.number (Working c.in-Ok.transaction) c.in-Ok.transaction c.in-Ok.ensures.taken
    refl in
    is.name ∙ sym c.args.self.now.named

pub abandon-requires-clause-stores : goal.abandon-requires-clause-stores
abandon-requires-clause-stores g c =
    let is = c.args.self.now.kept c.args.number (Working c.in-Ok.transaction) c.in-Ok.transaction c.in-Ok.ensures.taken
    refl in
    is.stores

pub invariant_of-self : goal.invariant_of-self
invariant_of-self g c =
    let was = c.args.self.now in
    record {
      named = ap (λ name. name.items) c.abandon.ensures.name ∙ was.named;
      pairs = was.pairs ∙ sym c.abandon.ensures.count;
      counted = ap length c.in-Ok.ensures.over ∙ with_stage-length was.ledger c.args.number Over ∙ was.counted;
      kept = kept_as _ _ _ _ c.abandon.ensures.count c.in-Ok.ensures.over
          (kept_over (vec_len was.coordinator.stores) was.ledger c.args.number was.kept);
      ready = ready_as _ _ c.in-Ok.ensures.over (ready_over was.ledger c.args.number was.ready);
    }

pub returns-in-Ok : goal.returns-in-Ok
returns-in-Ok g c =
    let was = c.args.self.now in
    inr (record {
      before = c.in-Ok.transaction;
      working = c.in-Ok.ensures.taken;
      ends = record {
        ending = c.abandon.result;
        told = refl;
        ends = c.abandon.ensures.ends;
        marks = c.abandon.ensures.elsewhere;
        alone = record {
          logs = agreed_logs g.C.Speak.view [] was.coordinator.name.items was.coordinator.stores.items
              c.abandon.new.self.stores.items
              (c.abandon.ensures.agrees [] (none_decided c.in-Ok.transaction.number));
          count = sym c.abandon.new.self.stores.ok.0 ∙ c.abandon.ensures.count ∙ was.coordinator.stores.ok.0;
          stands = same_whole _ _ _ _ _ _ _ _ _ c.abandon.ensures.count refl c.in-Ok.ensures.over;
        };
      };
    })
