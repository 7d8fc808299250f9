use Rattle.std.proofs.Common.{◌∙◌}
use Rattle.xa_statement.{specs.declared.state.State.TheVariants.{AfterXa, WantsGtrid}, proofs.Ways.goes_word}
use Rattle.xa_statement.proofs.usual.read_xa.Goals as goal

pub read_branch-requires : goal.read_branch-requires
read_branch-requires c =
    c.requires
    ∙ goes_word c.args.rest.now c.in-Some.rest.now AfterXa
    (WantsGtrid c.in-Some-verb_of.verb) c.in-Some.word c.in-Some-verb_of.ensures c.in-Some.ensures
