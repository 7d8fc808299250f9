use Rattle.std.proofs.Common.{rules, ◌≡◌, ◌==◌, ◌∙◌, true, false, length, sym}
use Rattle.xa_xid.specs.Bytes.{unblank}
use Rattle.xa_lines.{specs.Script.lines_of, proofs.Bare.{begins_blank, begins_filled, begins_none}}
use Rattle.xa_lines.proofs.comments.begins_with_comment.Goals as goal

pub returns-then-not-is_empty : goal.returns-then-not-is_empty
returns-then-not-is_empty c =
    let filled : (length (unblank c.split_line.result.0.now) == 0) ≡ false = search rules in
    c.is_comment.ensures
    ∙ sym (c.loop-rest.invariant
    ∙ begins_filled c.split_line.result.0.now c.loop-rest.rest.now (lines_of c.split_line.result.1.now)
    c.split_line.ensures.lines filled)

pub loop-rest-preserved : goal.loop-rest-preserved
loop-rest-preserved c =
    let blank : (length (unblank c.split_line.result.0.now) == 0) ≡ true = search rules in
    c.loop-rest.invariant
    ∙ begins_blank c.split_line.result.0.now c.loop-rest.rest.now (lines_of c.split_line.result.1.now)
    c.split_line.ensures.lines blank

pub returns : goal.returns
returns c = sym (c.loop-rest.invariant ∙ begins_none c.loop-rest.rest.now (sym c.is_empty.ensures
    ∙ c.loop-rest-test.false))
