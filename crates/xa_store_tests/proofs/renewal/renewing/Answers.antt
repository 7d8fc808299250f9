use Rattle.std.{proofs.Common.{◌≡◌, ◌∙◌, sym, subst}, specs.List.All}
use Rattle.xa_store.specs.Passes.{identity_of, log_of, known_of}
use Rattle.xa_store_tests.proofs.Kept.{all_kept}
use Rattle.xa_store_tests.proofs.renewal.renewing.Goals as goal

pub returns-in-Err-clause-kept : goal.returns-in-Err-clause-kept
returns-in-Err-clause-kept c =
    subst (λ identity. All (λ pass. log_of pass ≡ identity) c.in-Err.refused.1.items) (sym c.in-Err.ensures.store.1)
    (all_kept (λ old new. (log_of new ≡ log_of old) × (known_of new ≡ known_of old))
    (λ pass. log_of pass ≡ identity_of c.args.store.log)
    (λ old new step is. step.0 ∙ is)
    c.args.passes.items c.in-Err.refused.1.items c.in-Err.ensures.passes c.requires.belongs)
