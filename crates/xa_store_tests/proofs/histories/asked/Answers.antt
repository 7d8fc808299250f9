use Rattle.std.proofs.Common.{◌≡◌, ◌∙◌}
use Rattle.xa_store.specs.{Passes.{identity_of, log_of, known_of}, Gathered.AddsNothing}
use Rattle.xa_store_tests.proofs.Kept.{all_kept}
use Rattle.xa_store_tests.proofs.histories.asked.Goals as goal

pub returns : goal.returns
returns c =
    all_kept (λ old new. (new.base.now ≡ old.base.now) × (log_of new.pass ≡ log_of old.pass)
    × AddsNothing (known_of old.pass) (known_of new.pass))
    (λ session. log_of session.pass ≡ identity_of c.args.store.now.log)
    (λ old new step is. step.1 ∙ is)
    c.args.sessions.now.items c.history.new.sessions.items c.history.ensures.keeps c.requires
