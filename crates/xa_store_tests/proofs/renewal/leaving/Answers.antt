use Rattle.std.proofs.{Common.{◌≡◌, ◌∙◌, arith}, lemmas.List.Elements.length_all_zip}
use Rattle.xa_store.specs.{Passes.{identity_of, log_of, known_of}, Gathered.AddsNothing}
use Rattle.xa_store_tests.proofs.Kept.{all_kept}
use Rattle.xa_store_tests.proofs.renewal.leaving.Goals as goal

pub returns-in-Err-clause-some : goal.returns-in-Err-clause-some
returns-in-Err-clause-some c =
    let long =
    length_all_zip (λ old new. (new.base.now ≡ old.base.now) × (log_of new.pass ≡ log_of old.pass)
    × AddsNothing (known_of old.pass) (known_of new.pass))
    c.args.sessions.items c.in-Err.refused.0.items c.in-Err.ensures.err in
    omega (arith, long, c.requires.some)

pub returns-in-Err-clause-belongs : goal.returns-in-Err-clause-belongs
returns-in-Err-clause-belongs c =
    all_kept (λ old new. (new.base.now ≡ old.base.now) × (log_of new.pass ≡ log_of old.pass)
    × AddsNothing (known_of old.pass) (known_of new.pass))
    (λ session. log_of session.pass ≡ identity_of c.args.store.now.log)
    (λ old new step is. step.1 ∙ is)
    c.args.sessions.items c.in-Err.refused.0.items c.in-Err.ensures.err c.requires.belongs
