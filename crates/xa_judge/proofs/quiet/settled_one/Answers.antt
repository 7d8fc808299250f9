use Rattle.std.{proofs.Common.{ap, sym, ◌∙◌, rules, tests}, specs.Option.option_map}
use Rattle.xa_judge.{specs.Found.config_of, proofs.ForeseenSteps.settles_one}
use Rattle.xa_judge.proofs.quiet.settled_one.Goals as goal

pub returns-in-Some : goal.returns-in-Some
returns-in-Some c = λ hints run hinted are.
    settles_one hints run (config_of c.args.one) (config_of c.in-Some.next) c.args.session c.args.seen.now are hinted
    (c.in_ok-can_settle.ensures (search (rules, tests)))
    (sym c.in_ok-effected.ensures.config ∙ ap (option_map config_of) c.in-Some.is)
