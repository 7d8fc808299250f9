use Rattle.std.proofs.Common.{arith}
use Rattle.xa_judge.{specs.Found.config_of, proofs.Growth.{grows_none, grows_more, still_there}}
use Rattle.xa_judge.proofs.{Late.{adds_none, adds_more}, Loops.others_more}
use Rattle.xa_judge.proofs.known.add_all.Goals as goal

pub loop-number-init : goal.loop-number-init
loop-number-init c = record {
  grows = grows_none c.args.known.now.items;
  all = λ one at session act new below is. absurd (omega (arith, below, is.0));
  only = λ one at unanswered. adds_none c.args.returning.now (config_of one) c.args.known.now.items;
}

pub loop-number-preserved : goal.loop-number-preserved
loop-number-preserved c =
    let old = c.args.known.now.items in
    let now = c.loop-number.known.items in
    let new = c.add_others.new.known.items in
    record {
      grows = grows_more old now new c.loop-number.invariant.grows c.in_ok-add_others.ensures.grows;
      all = λ one at.
          others_more old now new c.args.place c.loop-number.number c.args.returning.now one
          c.loop-number.invariant.grows c.in_ok-add_others.ensures.grows at
          (c.loop-number.invariant.all one at) c.in_ok-add_others.ensures.has;
      only = λ one at unanswered.
          adds_more c.args.returning.now (config_of one) old now new (c.loop-number.invariant.only one at unanswered)
          (c.in_ok-add_others.ensures.only one
          (still_there old now c.args.place one c.loop-number.invariant.grows at) unanswered);
    }
