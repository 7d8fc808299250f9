use Rattle.std.proofs.Common.{arith}
use Rattle.xa_judge.{specs.Found.config_of, proofs.Sets.{within_more, apart_next}}
use Rattle.xa_judge.proofs.persistent.add_all.Goals as goal

pub loop-number-preserved : goal.loop-number-preserved
loop-number-preserved c =
    let old = c.args.all.now in
    let now = c.loop-number.all in
    let new = c.add_number.new.all in
    record {
      grows = within_more old now new c.loop-number.invariant.grows c.in_ok-add_number.ensures.grows;
      apart = apart_next (config_of c.args.one.now) now new c.args.session c.loop-number.number
          c.in_ok-add_number.ensures.grows c.loop-number.invariant.apart c.in_ok-add_number.ensures.apart;
    }

pub returns-clause-apart : goal.returns-clause-apart
returns-clause-apart c = λ other below is outside.
    c.loop-number.invariant.apart other (omega (arith, below, c.loop-number-test.false)) is outside
