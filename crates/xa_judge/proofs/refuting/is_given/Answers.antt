use Rattle.std.{proofs.Common.subst, specs.Prelude.IfSome}
use Rattle.xa_judge.specs.{Explained.{opening_config, LeadsThrough}, Found.config_of}
use Rattle.xa_judge.proofs.refuting.is_given.Goals as goal

pub returns : goal.returns
returns c = λ e.
    let moves = c.as_slice.result.now in
    record {
      config = config_of c.in-Some-2.one;
      reached = record {
        moves = moves;
        runs = subst (λ o. IfSome o
            (λ one. LeadsThrough (opening_config c.args.base.now) c.args.events.now moves (config_of one)))
            c.in-Some-2.is c.in_ok-followed-in-Some.ensures.found;
      };
      answered = c.has_answer.ensures e;
    }
