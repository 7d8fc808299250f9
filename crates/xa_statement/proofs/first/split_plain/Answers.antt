use Rattle.std.proofs.Common.{sym, ◌∙◌}
use Rattle.xa_xid.proofs.Cuts.{passed_more, passed_stop, passed_all}
use Rattle.xa_statement.specs.Ways.{plain_in}
use Rattle.xa_statement.proofs.first.split_plain.Goals as goal

pub returns-then-not-is_plain-clause-front : goal.returns-then-not-is_plain-clause-front
returns-then-not-is_plain-clause-front c =
    c.split_at.ensures.front
    ∙ sym (passed_stop (plain_in c.args.quote) c.args.body.now c.loop-i.i c.loop-i-test.true
    (sym c.if-not-is_plain.ensures) c.loop-i.invariant).0

pub returns-then-not-is_plain-clause-behind : goal.returns-then-not-is_plain-clause-behind
returns-then-not-is_plain-clause-behind c =
    c.split_at.ensures.back
    ∙ sym (passed_stop (plain_in c.args.quote) c.args.body.now c.loop-i.i c.loop-i-test.true
    (sym c.if-not-is_plain.ensures) c.loop-i.invariant).1

pub loop-i-preserved : goal.loop-i-preserved
loop-i-preserved c = passed_more (plain_in c.args.quote) c.args.body.now c.loop-i.i c.loop-i-test.true
    (sym c.if-not-is_plain.ensures) c.loop-i.invariant

pub returns-clause-front : goal.returns-clause-front
returns-clause-front c =
    c.split_at-2.ensures.front
    ∙ sym (passed_all (plain_in c.args.quote) c.args.body.now c.loop-i.i c.loop-i-test.false c.loop-i.invariant).0

pub returns-clause-behind : goal.returns-clause-behind
returns-clause-behind c =
    c.split_at-2.ensures.back
    ∙ sym (passed_all (plain_in c.args.quote) c.args.body.now c.loop-i.i c.loop-i-test.false c.loop-i.invariant).1
