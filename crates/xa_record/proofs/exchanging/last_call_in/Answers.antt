use Rattle.std.{proofs.Common.{None, map, arith}, specs.Option.option_map}
use Rattle.xa_record.{specs.{Exchanges.last_call, Kept.numbered_kept}, proofs.Exchanged.call_last}
use Rattle.xa_record.proofs.exchanging.last_call_in.Goals as goal

pub returns : goal.returns
returns c =
    call_last c.args.session (last_call c.args.session None (map numbered_kept c.args.numbered.now))
    (option_map (λ one. numbered_kept one.now) c.loop-one.found) c.args.numbered.now c.loop-one.one-index
    (omega (arith, c.loop-one-test.false, c.loop-one.auto.one-index-end)) c.loop-one.invariant
