use Rattle.std.proofs.Common.{◌≡◌, ◌++◌, [], map, ap, sym, ◌∙◌, append_assoc, rules}
use Rattle.xa_judge.{specs.Path.{move_of, moves_of}, proofs.Paths.moves_split}
use Rattle.xa_judge.proofs.path.Path.add_to.Goals as goal

pub returns : goal.returns
returns c =
    let moves = c.args.moves.now.items in
    let blocks = c.self.inside.blocks.items in
    let tail = c.self.inside.tail.items in
    let first : c.add_blocks.new.moves.items ≡ moves ++ moves_of blocks [] = search rules in
    let then : c.add_moves.new.moves.items ≡ c.add_blocks.new.moves.items ++ map move_of tail = search rules in
    then ∙ ap (λ l. l ++ map move_of tail) first ∙ append_assoc moves (moves_of blocks []) (map move_of tail)
    ∙ ap (λ l. moves ++ l) (sym (moves_split blocks tail) ∙ c.self.view_is)
