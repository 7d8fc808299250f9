use Rattle.std.proofs.Common.{◌≡◌, ◌++◌, ◌∷◌, [], ap, ◌∙◌, rules}
use Rattle.xa_judge.{specs.Path.moves_of, proofs.Paths.moves_folded}
use Rattle.xa_judge.proofs.path.Path.fold.Goals as goal

pub returns : goal.returns
returns c =
    let blocks = c.self.inside.blocks.items in
    let tail = c.self.inside.tail.items in
    let none : c.replace-codes.new.dest.items ≡ [] = search rules in
    let codes : c.in_ok-block.block ≡ tail = search rules in
    let parts : c.push.new.self.items ≡ blocks ++ tail ∷ [] =
    c.in_ok-push.ensures.items ∙ ap (λ b. blocks ++ b ∷ []) codes in
    ap (moves_of c.push.new.self.items) none ∙ ap (λ l. moves_of l []) parts ∙ moves_folded blocks tail ∙ c.self.view_is
