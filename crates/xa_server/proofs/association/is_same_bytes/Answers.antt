use Rattle.std.{proofs.Common.◌∙◌, specs.Cmp.Lexicographic.texts_ties}
use Rattle.xa_server.proofs.association.is_same_bytes.Goals as goal

pub returns : goal.returns
returns c = c.eq.ensures ∙ texts_ties c.args.left.now c.args.right.now
