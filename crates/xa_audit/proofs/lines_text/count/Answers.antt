use Rattle.std.proofs.Common.{ap, ◌∙◌, arith}
use Rattle.xa_audit.{specs.Globals.{verdict_of, same_verdict}, proofs.Lists.{count_le, count_in, count_out, count_done}}
use Rattle.xa_audit.proofs.lines_text.count.Goals as goal

pub overflow_add-count : goal.overflow_add-count
overflow_add-count c =
    omega (
      arith,
      count_le c.args.verdict c.args.globals.now.entries,
      c.loop-branches.invariant,
      c.len-size.ensures.len,
      c.len-size.ensures.small,
    )

pub loop-branches-preserved-then-is : goal.loop-branches-preserved-then-is
loop-branches-preserved-then-is c =
    count_in c.args.verdict c.loop-branches.branches-iterator c.next.new.self
    (c.in-Some.field-0-0.now, c.in-Some.branches.now) c.loop-branches.count _
    c.in-Some.ensures.steps
    (c.if-is.ensures ∙ ap (same_verdict c.args.verdict) (c.verdict_of.ensures ∙ ap verdict_of c.as_slice.ensures))
    c.loop-branches.invariant

pub loop-branches-preserved : goal.loop-branches-preserved
loop-branches-preserved c =
    count_out c.args.verdict c.loop-branches.branches-iterator c.next.new.self
    (c.in-Some.field-0-0.now, c.in-Some.branches.now) c.loop-branches.count _
    c.in-Some.ensures.steps
    (c.if-is.ensures ∙ ap (same_verdict c.args.verdict) (c.verdict_of.ensures ∙ ap verdict_of c.as_slice.ensures))
    c.loop-branches.invariant

pub returns : goal.returns
returns c =
    count_done c.args.verdict c.loop-branches.branches-iterator c.loop-branches.count _ c.in-None.ensures.steps.0
    c.loop-branches.invariant
