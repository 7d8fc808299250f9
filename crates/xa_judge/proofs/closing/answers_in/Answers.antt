use Rattle.std.proofs.Common.{ap, ◌∙◌, slice_get, arith}
use Rattle.xa_judge.{specs.Found.config_of, proofs.{Places.mapped_place, Loops.{answers_step, answers_more}}}
use Rattle.xa_judge.proofs.closing.answers_in.Goals as goal

pub loop-one-preserved : goal.loop-one-preserved
loop-one-preserved c = record {
  each = answers_step c.args.known.now c.loop-one.one-index c.args.session c.one-item.result c.loop-one.answers.items
      c.add_answer.new.answers.items
      c.loop-one-test.true c.one-item.is c.in_ok-add_answer.ensures c.loop-one.invariant.each;
  all = answers_more c.args.known.now c.loop-one.one-index c.args.session c.one-item.result c.loop-one.answers.items
      c.add_answer.new.answers.items
      c.loop-one-test.true c.one-item.is c.in_ok-add_answer.ensures c.loop-one.invariant.all;
}

pub loop-one-init : goal.loop-one-init
loop-one-init c =
    record {
      each = λ k d below. absurd (omega (arith, below));
      all = λ place one answer below. absurd
          (omega (arith, below));
    }

pub returns-clause-all : goal.returns-clause-all
returns-clause-all c = λ one answer has stands.
    let place = mapped_place config_of c.args.known.now one has in
    c.loop-one.invariant.all place.0 place.1 answer (omega (arith, place.2, c.loop-one-test.false)) place.3
    (ap (λ o. slice_get o.clients c.args.session) place.4 ∙ stands)
