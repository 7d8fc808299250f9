use Rattle.std.proofs.Common.{sym}
use Rattle.xa_manager.{specs.declared.stage.Stage.TheVariants.Over, proofs.Stages.put_back}
use Rattle.xa_manager.proofs.ledger.Ledger.take_ready.Goals as goal

pub returns-in-Some-clause-kept : goal.returns-in-Some-clause-kept
returns-in-Some-clause-kept c =
    put_back c.args.self.now c.args.number Over c.in-Some.stage c.take.new.self c.put.new.self
    (sym c.in-Some.ensures.taken)
    (c.in-Some.ensures.some (λ none. absurd (cc))) c.put.ensures
