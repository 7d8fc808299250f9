use Rattle.xa_judge.{specs.Near.named_in, proofs.NearVerdicts.illegal_behind}
use Rattle.xa_judge.proofs.near.verdict_behind.Goals as goal

pub returns-in-Illegal-clause-verdict : goal.returns-in-Illegal-clause-verdict
returns-in-Illegal-clause-verdict c =
    let near = c.requires.near in
    illegal_behind (named_in near.keys) c.args.base.now near.full c.args.near.now c.args.events.now c.args.first.now
    c.args.later.now c.requires.found.0 c.in-Illegal.place c.in-Illegal.answers c.args.found c.requires.parts near.loaded
    near.is_near near.named c.requires.found.1 c.in-Illegal.is
