use Rattle.std.proofs.Common.{◌≡◌, ◌∙◌, length, ap, refl, sym, inl, inr}
use Rattle.xa_manager.{specs.declared.stage.Stage.TheVariants.{Ready, Over}, proofs.Stages.put_back}
use Rattle.xa_manager.proofs.States.{same_whole, kept_as, ready_as, after_decision}
use Rattle.xa_manager.proofs.manager.Manager.decide.Goals as goal

pub invariant_of-self : goal.invariant_of-self
invariant_of-self g c =
    let was = c.args.self.now in
    let back : c.put.new.self ≡ was.ledger =
    put_back was.ledger c.args.number Over
    (Ready c.in-Ok.prepared) c.take_ready.new.self c.put.new.self c.in-Ok.ensures.taken c.in-Ok.ensures.over
    c.put.ensures in
    record {
      named = was.named;
      pairs = was.pairs;
      counted = ap length back ∙ was.counted
          ∙ sym (after_decision c.decide-decided.result was.decisions c.decide-decided.new.self
          c.in-Ok.prepared.transaction.number c.decide-decided.ensures.ok
          c.decide-decided.ensures.err);
      kept = kept_as _ _ _ _ refl back was.kept;
      ready = ready_as _ _ back was.ready;
    }

pub returns-in-Ok-decided : goal.returns-in-Ok-decided
returns-in-Ok-decided g c =
    let was = c.args.self.now in
    let back : c.put.new.self ≡ was.ledger =
    put_back was.ledger c.args.number Over
    (Ready c.in-Ok.prepared) c.take_ready.new.self c.put.new.self c.in-Ok.ensures.taken c.in-Ok.ensures.over
    c.put.ensures in
    let is = was.kept c.args.number (Ready c.in-Ok.prepared) c.in-Ok.prepared.transaction c.in-Ok.ensures.taken refl in
    inr (record {
      prepared = c.in-Ok.prepared;
      ready = c.in-Ok.ensures.taken;
      outcome = inl (
        rw (← is.number) c.in-Ok-decided.ensures.given,
        refl,
        same_whole _ _ _ _ _ _ _ _ _ refl (rw (← is.number) c.in-Ok-decided.ensures.ok) back,
      );
    })

pub returns-in-Err-decided : goal.returns-in-Err-decided
returns-in-Err-decided g c =
    let was = c.args.self.now in
    let back : c.put.new.self ≡ was.ledger =
    put_back was.ledger c.args.number Over
    (Ready c.in-Ok.prepared) c.take_ready.new.self c.put.new.self c.in-Ok.ensures.taken c.in-Ok.ensures.over
    c.put.ensures in
    let is = was.kept c.args.number (Ready c.in-Ok.prepared) c.in-Ok.prepared.transaction c.in-Ok.ensures.taken refl in
    inr (record {
      prepared = c.in-Ok.prepared;
      ready = c.in-Ok.ensures.taken;
      outcome = inr (
        rw (← is.number) c.in-Err-decided.ensures.closed,
        refl,
        same_whole _ _ _ _ _ _ _ _ _ refl c.in-Err-decided.ensures.err back,
      );
    })
