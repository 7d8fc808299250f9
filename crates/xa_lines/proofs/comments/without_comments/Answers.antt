use Rattle.std.proofs.Common.{rules, ◌≡◌, ◌∙◌, ◌++◌, ◌∷◌, [], sym}
use Rattle.xa_lines.{specs.Script.lines_of, proofs.Bare.{bare_more, bare_end}}
use Rattle.xa_lines.proofs.comments.without_comments.Goals as goal

pub loop-rest-preserved : goal.loop-rest-preserved
loop-rest-preserved c =
    let ended : c.extend_from_slice.new.self.items ≡ c.push_bare.new.text.items ++ 10 ∷ [] = search rules in
    bare_more _ c.loop-rest.text.items c.push_bare.new.text.items c.extend_from_slice.new.self.items
    c.split_line.result.0.now c.loop-rest.rest.now
    (lines_of c.split_line.result.1.now) c.split_line.ensures.lines c.loop-rest.invariant (search rules) ended

pub returns : goal.returns
returns c = bare_end _ c.loop-rest.text.items c.loop-rest.rest.now (sym c.is_empty.ensures
    ∙ c.loop-rest-test.false) c.loop-rest.invariant
