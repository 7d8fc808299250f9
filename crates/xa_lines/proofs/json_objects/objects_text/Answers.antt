use Rattle.std.proofs.Common.{◌∙◌, sym}
use Rattle.xa_lines.{specs.Script.lines_of, proofs.JsonWritten.{objects_more, objects_end}}
use Rattle.xa_lines.proofs.json_objects.objects_text.Goals as goal

pub loop-rest-preserved : goal.loop-rest-preserved
loop-rest-preserved c =
    objects_more _ c.loop-rest.objects.items c.in_ok-objects.objects.items c.split_line.result.0.now
    c.loop-rest.rest.now
    (lines_of c.split_line.result.1.now) c.split_line.ensures.lines c.loop-rest.invariant c.in_ok-objects.ensures

pub returns : goal.returns
returns c = objects_end _ c.loop-rest.objects.items c.loop-rest.rest.now (sym c.is_empty.ensures
    ∙ c.loop-rest-test.false) c.loop-rest.invariant
