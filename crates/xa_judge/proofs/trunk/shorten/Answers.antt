use Rattle.std.proofs.Common.{arith}
use Rattle.xa_judge.proofs.Verdicts.{shortened}
use Rattle.xa_judge.proofs.trunk.shorten.Goals as goal

pub returns-in_ok-push-in-Some : goal.returns-in_ok-push-in-Some
returns-in_ok-push-in-Some c =
    shortened c.args.trunk.now.items c.add_to.new.moves.items c.args.known.now.items c.pop.new.self.items
    c.push.new.self.items c.in-Some.only
    c.without_path.result
    (omega (arith, c.in-Some.ensures.cases, c.len.ensures, c.if-len-ne1.false, c.pop.new.self.ok.0))
    c.in-Some.ensures.items c.in_ok-push-in-Some.ensures.items c.without_path.ensures.config c.without_path.ensures.path
    c.in_ok-add_to-in-Some.ensures
