use Rattle.std.{proofs.Common.{◌≤◌, take, subst}, specs.Prelude.not}
use Rattle.xa_judge.{specs.{Keys.count_in, Near.named_in}, proofs.KeyVerdicts.illegal_part}
use Rattle.xa_judge.proofs.by_keys.illegal_in.Goals as goal

pub returns-then-count_before-explained : goal.returns-then-count_before-explained
returns-then-count_before-explained c =
    let few : count_in (not c.args.wanted) (take c.in-Some.place c.args.sides.now) ≤ c.args.explained =
    subst (λ n. n ≤ c.args.explained) c.count_before.ensures.count c.if-count_before-explained.true in
    illegal_part (named_in c.args.keys.now) c.args.base.now c.args.sides.now
    c.args.events.now c.args.wanted c.args.index c.in-Some.place c.args.explained c.args.limit c.args.answers
    c.requires.none c.requires.cut c.in-Some.ensures.at c.in-Some.ensures.count few c.requires.part c.requires.other
