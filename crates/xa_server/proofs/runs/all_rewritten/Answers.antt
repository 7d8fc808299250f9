use Rattle.xa_server.proofs.Parted.{rewrites_one, first_ascends, others_ascend}
use Rattle.xa_server.proofs.runs.all_rewritten.Goals as goal

pub first_rewritten-requires : goal.first_rewritten-requires
first_rewritten-requires c =
    first_ascends (λ list. list.items) _ _ c.in-Some.rows c.loop-rows.invariant.ascend c.in-Some.ensures.steps.0

pub loop-rows-preserved : goal.loop-rows-preserved
loop-rows-preserved c = record {
  all = rewrites_one (λ list. list.items) c.loop-rows.made.items _ c.loop-rows.left.now _ _ c.in_ok-first_rewritten.field-0
      c.in-Some.rows _ _ c.loop-rows.invariant.all c.in-Some.ensures.steps.0 c.in_ok-first_rewritten.ensures
      c.in_ok-push.ensures.items c.other_parts-left.ensures;
  ascend = others_ascend (λ list. list.items) _ _ c.in-Some.rows c.loop-rows.invariant.ascend c.in-Some.ensures.steps.0;
}
