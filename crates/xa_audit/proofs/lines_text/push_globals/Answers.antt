use Rattle.xa_audit.{specs.Written.global_text, proofs.Texts.{each_next, each_done}}
use Rattle.xa_audit.proofs.lines_text.push_globals.Goals as goal

pub loop-name-preserved : goal.loop-name-preserved
loop-name-preserved c =
    each_next global_text c.loop-name.name-iterator c.next.new.self
    (c.in-Some.name.now, c.in-Some.branches.now) _ c.loop-name.text.items
    c.push_global.new.text.items c.in-Some.ensures.steps c.in_ok-push_global.ensures c.loop-name.invariant

pub returns : goal.returns
returns c = each_done global_text c.loop-name.name-iterator _ c.loop-name.text.items c.in-None.ensures.steps.0
    c.loop-name.invariant
