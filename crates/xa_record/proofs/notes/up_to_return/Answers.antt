use Rattle.std.proofs.Common.{◌-◌, sym, ◌∙◌, arith}
use Rattle.xa_record.proofs.Returns.{up_to_return-found, up_to_return-left, up_to_return-none}
use Rattle.xa_record.proofs.notes.up_to_return.Goals as goal

pub returns-then-returns_to-clause-place : goal.returns-then-returns_to-clause-place
returns-then-returns_to-clause-place c =
    up_to_return-found _ c.args.session c.args.numbered.now
    (c.loop-place.place - 1) c.loop-place.place c.index-numbered-last.result
    (omega (arith, c.loop-place-test.true)) c.loop-place.invariant.within c.index-numbered-last.is
    (sym c.returns_to.ensures ∙ c.if-returns_to.true)
    c.loop-place.invariant.left

pub loop-place-preserved : goal.loop-place-preserved
loop-place-preserved c = record {
  left = up_to_return-left _ c.args.session c.args.numbered.now
      (c.loop-place.place - 1) c.loop-place.place c.index-numbered-last.result
      (omega (arith, c.loop-place-test.true)) c.loop-place.invariant.within c.index-numbered-last.is
      (sym c.returns_to.ensures ∙ c.if-returns_to.false)
      c.loop-place.invariant.left;
  within = omega (arith, c.loop-place.invariant.within);
}

pub returns-clause-place : goal.returns-clause-place
returns-clause-place c =
    up_to_return-none _ c.args.session c.args.numbered.now c.loop-place.place
    (omega (arith, c.loop-place-test.false)) c.loop-place.invariant.left
