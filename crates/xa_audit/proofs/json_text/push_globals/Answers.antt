use Rattle.xa_audit.{specs.Written.global_json, proofs.Texts.{json_next, json_done}}
use Rattle.xa_audit.proofs.json_text.push_globals.Goals as goal

pub loop-name-preserved : goal.loop-name-preserved
loop-name-preserved c =
    json_next global_json c.loop-name.first c.loop-name.name-iterator c.next.new.self
    (c.in-Some.name.now, c.in-Some.branches.now) _
    c.loop-name.text.items c.push_comma.new.text.items c.push_global.new.text.items c.in-Some.ensures.steps
    c.in_ok-push_comma.ensures
    c.in_ok-push_global.ensures c.loop-name.invariant

pub returns : goal.returns
returns c =
    json_done global_json c.loop-name.first c.loop-name.name-iterator _ c.loop-name.text.items c.in-None.ensures.steps.0
    c.loop-name.invariant
