use Rattle.std.proofs.Common.{◌≡◌, ◌+◌, ◌++◌, ◌∷◌, [], take, map, ap, sym, ◌∙◌, append_assoc, append-nil, rules}
use Rattle.std.proofs.lemmas.List.{take_more}
use Rattle.xa_judge.{specs.Path.{move_of, moves_of}, proofs.Paths.moves_more}
use Rattle.xa_judge.proofs.path.add_blocks.Goals as goal

pub loop-block-init : goal.loop-block-init
loop-block-init c = sym (append-nil c.args.moves.now.items)

pub loop-block-preserved : goal.loop-block-preserved
loop-block-preserved c =
    let moves = c.args.moves.now.items in
    let before = take c.loop-block.block-index c.args.blocks.now in
    let block = c.block-item.result in
    let parts : take (c.loop-block.block-index + 1) c.args.blocks.now ≡ before ++ block ∷ [] =
    take_more c.args.blocks.now c.loop-block.block-index block c.loop-block-test.true
    ∙ ap (λ b. before ++ b ∷ []) (sym c.block-item.is) in
    let added : c.add_moves.new.moves.items ≡ c.loop-block.moves.items ++ map move_of block = search rules in
    added ∙ ap (λ l. l ++ map move_of block) c.loop-block.invariant
    ∙ append_assoc moves (moves_of before []) (map move_of block)
    ∙ ap (λ l. moves ++ l) (sym (moves_more before block) ∙ ap (λ l. moves_of l []) (sym parts))
