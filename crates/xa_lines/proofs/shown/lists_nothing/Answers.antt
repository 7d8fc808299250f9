use Rattle.std.proofs.{Common.{◌∙◌, arith, length, sym, vec_len}, lemmas.{Bool.eqb-true, List.nil_from_length}}
use Rattle.xa_lines.proofs.Listed.{nothing_listed}
use Rattle.xa_lines.proofs.shown.lists_nothing.Goals as goal

pub returns-in-Ok-clause-nothing : goal.returns-in-Ok-clause-nothing
returns-in-Ok-clause-nothing c = λ is.
    nothing_listed c.args.server.now c.args.keys.now
    (sym c.in-Ok.ensures.listed ∙ nil_from_length c.in-Ok.branches.items
    (omega (arith, c.in-Ok.branches.ok.0, eqb-true (vec_len c.in-Ok.branches) 0 (sym c.is_empty-in-Ok.ensures ∙ is))))
    (nil_from_length c.args.keys.now (eqb-true (length c.args.keys.now) 0 (sym c.if-not-is_empty.ensures)))
