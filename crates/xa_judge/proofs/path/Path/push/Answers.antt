use Rattle.std.proofs.Common.{◌++◌, ◌∷◌, [], ap, ◌∙◌}
use Rattle.xa_judge.{specs.Path.moves_of, proofs.Paths.moves_push}
use Rattle.xa_judge.proofs.path.Path.push.Goals as goal

pub returns : goal.returns
returns c =
    let blocks = c.self.inside.blocks.items in
    let tail = c.self.inside.tail.items in
    ap (moves_of blocks) c.in_ok-push.ensures.items ∙ moves_push blocks tail c.code_of.result
    ∙ ap (λ m. moves_of blocks tail ++ m ∷ []) c.code_of.ensures
    ∙ ap (λ l. l ++ c.args.by ∷ []) c.self.view_is
