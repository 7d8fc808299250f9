use Rattle.std.proofs.Common.{sym, subst}
use Rattle.xa_server.specs.{State.State, Step.after}
use Rattle.xa_judge.{specs.Near.{named_in, AreNear}, proofs.NearStates.near_after}
use Rattle.xa_judge.proofs.near.carry_out_near.Goals as goal

pub returns : goal.returns
returns c = λ before.
    let named = named_in c.args.keys.now in
    let full = c.args.full.now in
    let statement = c.args.statement.now in
    subst (λ (s : State). AreNear named (after full c.args.session statement) s) (sym c.in_ok-_reply.ensures.step.1)
    (near_after named full c.args.near.now c.args.session statement before)
