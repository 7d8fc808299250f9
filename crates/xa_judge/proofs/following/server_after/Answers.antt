use Rattle.std.proofs.Common.{IfSome, subst, sym}
use Rattle.xa_judge.specs.{Explained.{opening_config, LeadsThrough}, Found.config_of}
use Rattle.xa_judge.proofs.following.server_after.Goals as goal

pub returns-in_ok-into_server-in-Some-clause-found : goal.returns-in_ok-into_server-in-Some-clause-found
returns-in_ok-into_server-in-Some-clause-found c =
    let leads =
    subst (λ found. IfSome found
    (λ one. LeadsThrough (opening_config c.args.base.now) c.args.events.now c.args.moves.now
    (config_of one))) c.in-Some.is
    c.in_ok-followed.ensures.found in
    (config_of c.in-Some.one, leads, sym c.in_ok-into_server-in-Some.ensures)
