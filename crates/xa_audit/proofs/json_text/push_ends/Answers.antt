use Rattle.std.proofs.Common.{◌++◌, refl, ap, ◌∙◌, slice_index_or}
use Rattle.xa_audit.{specs.{declared.ends.End.End, Written.{string_text, end_json}}, proofs.Texts.{json_step, json_end}}
use Rattle.xa_audit.proofs.json_text.push_ends.Goals as goal

pub loop-end-preserved : goal.loop-end-preserved
loop-end-preserved c =
    json_step end_json c.loop-end.first c.args.ends.now c.loop-end.end-index
    (slice_index_or c.args.ends.now c.loop-end.end-index End.Committed) End.Committed _
    c.loop-end.text.items c.push_comma.new.text.items c.push_string.new.text.items c.loop-end-test.true refl
    c.in_ok-push_comma.ensures
    (c.in_ok-push_string.ensures ∙ ap (λ w. c.push_comma.new.text.items ++ string_text w) c.words_of_end.ensures)
    c.loop-end.invariant

pub returns : goal.returns
returns c = json_end end_json c.loop-end.first c.args.ends.now c.loop-end.end-index _ c.loop-end.text.items
    c.loop-end-test.false c.loop-end.invariant
