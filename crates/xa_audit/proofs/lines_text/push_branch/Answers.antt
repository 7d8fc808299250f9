use Rattle.std.proofs.Common.{◌++◌, refl, ap, ◌∙◌, slice_index_or}
use Rattle.xa_audit.{specs.{declared.ends.End.End, Written.{life_text, each_text}}, proofs.Texts.{each_step, each_end}}
use Rattle.xa_audit.proofs.lines_text.push_branch.Goals as goal

pub loop-end-preserved : goal.loop-end-preserved
loop-end-preserved c =
    each_step (life_text c.args.branch.now) c.as_slice-ends.result.now c.loop-end.end-index
    (slice_index_or c.as_slice-ends.result.now c.loop-end.end-index End.Committed) End.Committed _ c.loop-end.text.items
    c.push_life.new.text.items
    c.loop-end-test.true refl c.in_ok-push_life.ensures c.loop-end.invariant

pub returns : goal.returns
returns c =
    each_end (life_text c.args.branch.now) c.as_slice-ends.result.now c.loop-end.end-index _ c.loop-end.text.items
    c.loop-end-test.false
    c.loop-end.invariant
    ∙ ap (λ ends. c.args.text.now.items ++ each_text (life_text c.args.branch.now) ends) c.as_slice-ends.ensures
