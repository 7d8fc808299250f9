use Rattle.std.proofs.Common.{sym, ◌∙◌}
use Rattle.xa_xid.{specs.Bytes.belongs, proofs.Cuts.{passed_more, passed_stop, passed_all}}
use Rattle.xa_xid.proofs.byte_class.ByteClass.split.Goals as goal

pub returns-then-not-has-clause-front : goal.returns-then-not-has-clause-front
returns-then-not-has-clause-front c =
    c.split_at.ensures.front
    ∙ sym (passed_stop (belongs c.args.self) c.args.text.now c.loop-i.i c.loop-i-test.true
    (sym c.if-not-has.ensures) c.loop-i.invariant).0

pub returns-then-not-has-clause-behind : goal.returns-then-not-has-clause-behind
returns-then-not-has-clause-behind c =
    c.split_at.ensures.back ∙ sym
    (passed_stop (belongs c.args.self) c.args.text.now c.loop-i.i c.loop-i-test.true
    (sym c.if-not-has.ensures) c.loop-i.invariant).1

pub loop-i-preserved : goal.loop-i-preserved
loop-i-preserved c = passed_more (belongs c.args.self) c.args.text.now c.loop-i.i c.loop-i-test.true
    (sym c.if-not-has.ensures) c.loop-i.invariant

pub returns-clause-front : goal.returns-clause-front
returns-clause-front c = c.split_at-2.ensures.front ∙ sym
    (passed_all (belongs c.args.self) c.args.text.now c.loop-i.i c.loop-i-test.false c.loop-i.invariant).0

pub returns-clause-behind : goal.returns-clause-behind
returns-clause-behind c = c.split_at-2.ensures.back ∙ sym
    (passed_all (belongs c.args.self) c.args.text.now c.loop-i.i c.loop-i-test.false c.loop-i.invariant).1
