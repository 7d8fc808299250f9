use Rattle.std.proofs.Common.{sym, subst}
use Rattle.xa_xid.specs.declared.statement.Statement.{Statement}
use Rattle.xa_server.specs.Step.{after}
use Rattle.xa_judge.{specs.Near.{named_in, AreNear}, proofs.NearStates.{near_put, near_del}}
use Rattle.xa_judge.proofs.near.is_left_out.Goals as goal

pub returns-in_ok-out-in-Put : goal.returns-in_ok-out-in-Put
returns-in_ok-out-in-Put c = λ out near before.
    let named = named_in c.args.keys.now in
    let server = c.args.server.now in
    subst (λ (s : Statement). AreNear named (after server c.args.session s) near) (sym c.in-Put.is)
    (near_put named server near c.args.session _ _ before (c.in_ok-out-in-Put.ensures.free out)
    (c.in_ok-out-in-Put.ensures.other out))

pub returns-in_ok-out-in-Del : goal.returns-in_ok-out-in-Del
returns-in_ok-out-in-Del c = λ out near before.
    let named = named_in c.args.keys.now in
    let server = c.args.server.now in
    subst (λ (s : Statement). AreNear named (after server c.args.session s) near) (sym c.in-Del.is)
    (near_del named server near c.args.session _ before (c.in_ok-out-in-Del.ensures.free out)
    (c.in_ok-out-in-Del.ensures.other out))
