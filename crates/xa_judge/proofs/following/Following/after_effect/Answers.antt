use Rattle.std.{proofs.Common.{ap, sym, ◌∙◌, Some, drop}, specs.Option.option_map}
use Rattle.xa_judge.{specs.Found.config_of, proofs.Steps.effect_leads}
use Rattle.xa_judge.proofs.following.Following.after_effect.Goals as goal

pub returns-in-Some : goal.returns-in-Some
returns-in-Some c events later end =
    effect_leads (config_of c.args.self.one) (config_of c.without_path.result) c.args.session c.args.act
    (drop c.args.self.seen events) later end
    c.in_ok-once_effected.ensures.session
    (sym c.in_ok-once_effected.ensures.config ∙ ap (option_map config_of) c.in-Some.is
    ∙ ap Some (sym c.without_path.ensures.config))
