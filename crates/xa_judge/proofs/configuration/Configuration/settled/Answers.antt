use Rattle.std.proofs.Common.{sym, ap, ◌∙◌, inr, Some}
use Rattle.xa_judge.{specs.Found.config_of, proofs.Waits.effect_called}
use Rattle.xa_judge.proofs.configuration.Configuration.settled.Goals as goal

pub returns-in_ok-new-in-Some-clause-reach : goal.returns-in_ok-new-in-Some-clause-reach
returns-in_ok-new-in-Some-clause-reach c =
    inr (
      c.in_ok-called_for.ensures.session,
      effect_called (config_of c.args.self) c.args.session c.in-Some.request
          (sym c.in_ok-called_for.ensures.value ∙ c.in-Some.is)
          ∙ ap Some (sym c.in_ok-new-in-Some.ensures.config),
      c.in_ok-new-in-Some.ensures.path,
    )
