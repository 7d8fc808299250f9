use Rattle.std.proofs.Common.{ap, sym, ◌∙◌, arith}
use Rattle.xa_judge.{specs.{Found.config_of, Late.has_unheard}, proofs.Places.mapped_place}
use Rattle.xa_judge.proofs.Late.{unheard_at, heard_more}
use Rattle.xa_judge.proofs.advance.none_unheard.Goals as goal

pub returns-then-has_unheard-clause-some : goal.returns-then-has_unheard-clause-some
returns-then-has_unheard-clause-some c = λ no.
    unheard_at c.args.known.now c.loop-one.one-index c.args.session c.one-item.result c.loop-one-test.true c.one-item.is
    (sym c.has_unheard.ensures ∙ c.if-has_unheard.true)

pub loop-one-preserved : goal.loop-one-preserved
loop-one-preserved c =
    heard_more c.args.known.now c.loop-one.one-index c.args.session c.one-item.result c.loop-one-test.true c.one-item.is
    (sym c.has_unheard.ensures ∙ c.if-has_unheard.false) c.loop-one.invariant

pub returns-clause-none : goal.returns-clause-none
returns-clause-none c = λ all one has.
    let place = mapped_place config_of c.args.known.now one has in
    ap (λ o. has_unheard o c.args.session) (sym place.4)
    ∙ c.loop-one.invariant place.0 place.1 (omega (arith, place.2, c.loop-one-test.false)) place.3
