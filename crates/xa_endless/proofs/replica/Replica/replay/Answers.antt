use Rattle.std.proofs.Common.{refl, ap, ◌∙◌}
use Rattle.xa_server.specs.Step.{after}
use Rattle.xa_endless.proofs.Standing.{stands_next}
use Rattle.xa_endless.proofs.replica.Replica.replay.Goals as goal

pub returns-clause-ok : goal.returns-clause-ok
returns-clause-ok c = λ seen stands is.
    stands_next seen c.args.self.now _ c.args.entry.now stands is
    (c.in_ok-apply.ensures.step.1
    ∙ ap (λ session. after c.args.self.now.server session c.statement.result.now) c.session.ensures.value
    ∙ ap (λ statement. after c.args.self.now.server c.args.entry.now.session statement) c.statement.ensures.value) refl
