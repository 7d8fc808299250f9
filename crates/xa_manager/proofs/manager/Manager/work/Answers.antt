use Rattle.std.proofs.Common.{rules, [], ◌≡◌, ◌∙◌, length, vec_len, ap, refl, sym, inr}
use Rattle.xa_manager.specs.declared.stage.Stage.TheVariants.{Working, Over}
use Rattle.xa_manager.proofs.Stages.{with_stage-length, kept_with, ready_with, put_on}
use Rattle.xa_manager.proofs.{States.{same_whole, kept_as, ready_as, worked_kept}, Said.agreed_logs}
use Rattle.xa_manager.proofs.manager.Manager.work.Goals as goal

pub work-worked-requires-clause-name : goal.work-worked-requires-clause-name
work-worked-requires-clause-name g c =
    let is = c.args.self.now.kept c.args.number (Working c.in-Ok.transaction) c.in-Ok.transaction c.in-Ok.ensures.taken
    refl in
    is.name ∙ sym c.args.self.now.named

pub work-worked-requires-clause-stores : goal.work-worked-requires-clause-stores
work-worked-requires-clause-stores g c =
    let is = c.args.self.now.kept c.args.number (Working c.in-Ok.transaction) c.in-Ok.transaction c.in-Ok.ensures.taken
    refl in
    is.stores

pub invariant_of-self : goal.invariant_of-self
invariant_of-self g c =
    let was = c.args.self.now in
    let worked = Working c.work-worked.new.transaction in
    let on = put_on was.ledger c.args.number Over worked c.take_working.new.self c.put.new.self c.in-Ok.ensures.over
    c.put.ensures in
    let is = was.kept c.args.number (Working c.in-Ok.transaction) c.in-Ok.transaction c.in-Ok.ensures.taken refl in
    let count : vec_len c.work-worked.new.self.stores ≡ vec_len was.coordinator.stores =
    c.work-worked.new.self.stores.ok.0 ∙ c.work-worked.ensures.frame.count ∙ sym was.coordinator.stores.ok.0 in
    record {
      named = ap (λ name. name.items) c.work-worked.ensures.name ∙ was.named;
      pairs = was.pairs ∙ sym count;
      counted = ap length on ∙ with_stage-length was.ledger c.args.number worked ∙ was.counted;
      kept =
          kept_as _ _ _ _ count on
          (kept_with (vec_len was.coordinator.stores) was.ledger c.args.number worked was.kept
          (worked_kept _ _ _ _ _ c.work-worked.ensures.keeps is));
      ready = ready_as _ _ on (ready_with was.ledger c.args.number worked was.ready (λ prepared same. absurd (cc)));
    }

pub returns-in-Ok : goal.returns-in-Ok
returns-in-Ok g c =
    let was = c.args.self.now in
    let worked = Working c.work-worked.new.transaction in
    let on = put_on was.ledger c.args.number Over worked c.take_working.new.self c.put.new.self c.in-Ok.ensures.over
    c.put.ensures in
    let count : vec_len c.work-worked.new.self.stores ≡ vec_len was.coordinator.stores =
    c.work-worked.new.self.stores.ok.0 ∙ c.work-worked.ensures.frame.count ∙ sym was.coordinator.stores.ok.0 in
    inr (record {
      before = c.in-Ok.transaction;
      after = c.work-worked.new.transaction;
      answer = c.work-worked.result;
      known = search rules;
      working = c.in-Ok.ensures.taken;
      told = refl;
      keeps = c.work-worked.ensures.keeps;
      works = c.work-worked.ensures.works;
      others = c.work-worked.ensures.frame;
      marks = c.work-worked.ensures.marks;
      alone = record {
        logs = agreed_logs g.C.Speak.view [] was.coordinator.name.items was.coordinator.stores.items
            c.work-worked.new.self.stores.items
            (c.work-worked.ensures.agrees []);
        count = c.work-worked.ensures.frame.count;
        stands = same_whole _ _ _ _ _ _ _ _ _ count refl on;
      };
    })
