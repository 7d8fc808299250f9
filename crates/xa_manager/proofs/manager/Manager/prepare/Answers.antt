use Rattle.std.proofs.Common.{[], ◌≡◌, ◌∙◌, length, vec_len, ap, refl, sym, inr}
use Rattle.xa_manager.specs.{declared.stage.Stage.TheVariants.{Working, Over}, Carried.stage_after}
use Rattle.xa_manager.specs.{declared.response.Response.TheVariants.Voted as Told, Ledger.with_stage}
use Rattle.xa_manager.proofs.Stages.{with_stage-length, kept_with, ready_with, put_on}
use Rattle.xa_manager.proofs.{States.{same_whole, kept_as, ready_as, voted_kept, voted_ready}, Said.agreed_logs}
use Rattle.xa_manager.proofs.manager.Manager.prepare.Goals as goal

pub prepare-vote-requires-clause-name : goal.prepare-vote-requires-clause-name
prepare-vote-requires-clause-name g c =
    let is = c.args.self.now.kept c.args.number (Working c.in-Ok.transaction) c.in-Ok.transaction c.in-Ok.ensures.taken
    refl in
    is.name ∙ sym c.args.self.now.named

pub prepare-vote-requires-clause-stores : goal.prepare-vote-requires-clause-stores
prepare-vote-requires-clause-stores g c =
    let is = c.args.self.now.kept c.args.number (Working c.in-Ok.transaction) c.in-Ok.transaction c.in-Ok.ensures.taken
    refl in
    is.stores

pub invariant_of-self : goal.invariant_of-self
invariant_of-self g c =
    let was = c.args.self.now in
    let stage = stage_after c.prepare-vote.result in
    let put : c.put.new.self ≡ with_stage c.take_working.new.self c.args.number stage =
    c.put.ensures ∙ ap (λ s. with_stage c.take_working.new.self c.args.number s) c.told_of-answer.ensures.stage in
    let on = put_on was.ledger c.args.number Over stage c.take_working.new.self c.put.new.self c.in-Ok.ensures.over
    put in
    let is = was.kept c.args.number (Working c.in-Ok.transaction) c.in-Ok.transaction c.in-Ok.ensures.taken refl in
    let stores = was.coordinator.stores in
    let after = c.prepare-vote.new.self.stores.items in
    record {
      named = ap (λ name. name.items) c.prepare-vote.ensures.name ∙ was.named;
      pairs = was.pairs ∙ sym c.prepare-vote.ensures.count;
      counted = ap length on ∙ with_stage-length was.ledger c.args.number stage ∙ was.counted;
      kept = kept_as _ _ _ _ c.prepare-vote.ensures.count on
          (kept_with (vec_len stores) was.ledger c.args.number stage was.kept
          (voted_kept g.C.Speak.view c.in-Ok.transaction c.prepare-vote.result stores.items after
          (vec_len stores) c.args.number c.prepare-vote.ensures.vote is));
      ready = ready_as _ _ on
          (ready_with was.ledger c.args.number stage was.ready
          (voted_ready g.C.Speak.view c.in-Ok.transaction c.prepare-vote.result stores.items after
          c.prepare-vote.ensures.vote));
    }

pub returns-in-Ok : goal.returns-in-Ok
returns-in-Ok g c =
    let was = c.args.self.now in
    let stage = stage_after c.prepare-vote.result in
    let put : c.put.new.self ≡ with_stage c.take_working.new.self c.args.number stage =
    c.put.ensures ∙ ap (λ s. with_stage c.take_working.new.self c.args.number s) c.told_of-answer.ensures.stage in
    let on = put_on was.ledger c.args.number Over stage c.take_working.new.self c.put.new.self c.in-Ok.ensures.over
    put in
    inr (record {
      before = c.in-Ok.transaction;
      vote = c.prepare-vote.result;
      working = c.in-Ok.ensures.taken;
      told = ap (λ answer. Told answer) c.told_of-answer.ensures.answer;
      votes = c.prepare-vote.ensures.vote;
      marks = c.prepare-vote.ensures.elsewhere;
      marked_there = c.prepare-vote.ensures.cut;
      alone = record {
        logs = agreed_logs g.C.Speak.view [] was.coordinator.name.items was.coordinator.stores.items
            c.prepare-vote.new.self.stores.items
            (c.prepare-vote.ensures.agrees []);
        count = sym c.prepare-vote.new.self.stores.ok.0 ∙ c.prepare-vote.ensures.count ∙ was.coordinator.stores.ok.0;
        stands = same_whole _ _ _ _ _ _ _ _ _ c.prepare-vote.ensures.count refl on;
      };
    })
