-- Moves as codes, in blocks.
--     moves_folded, moves_split, moves_more     the codes behind as one block more;  moves in two parts
use Rattle.std.proofs.Common.{◌≡◌, ℕ, List, [], ◌∷◌, ◌++◌, map, ap, ◌∙◌, append_assoc, append-nil, arith}
use Rattle.std.{proofs.lemmas.List.{map-append, Folds.concat-append}, specs.List.concat}
use Rattle.xa_judge.specs.Path.{move_of, moves_of}

-- joining blocks with one more at the end is joining them and putting that one behind
concat_more : (blocks : List (List ℕ)) (last : List ℕ) → concat (blocks ++ last ∷ []) ≡ concat blocks ++ last
concat_more blocks last = concat-append blocks (last ∷ []) ∙ ap (λ l. concat blocks ++ l) (append-nil last)

-- one code more behind the blocks is one move more at the end
pub moves_push : (blocks : List (List ℕ)) (tail : List ℕ) (code : ℕ)
    → moves_of blocks (tail ++ code ∷ []) ≡ moves_of blocks tail ++ move_of code ∷ []
moves_push blocks tail code = grind (arith, append_assoc, map-append)

-- if the codes behind the blocks become a block themselves, the moves stay the same
pub moves_folded : (blocks : List (List ℕ)) (tail : List ℕ) → moves_of (blocks ++ tail ∷ []) [] ≡ moves_of blocks tail
moves_folded blocks tail = ap (map move_of) (append-nil (concat (blocks ++ tail ∷ [])) ∙ concat_more blocks tail)

-- the moves of the blocks come first, and then those of the codes behind them
pub moves_split : (blocks : List (List ℕ)) (tail : List ℕ)
    → moves_of blocks tail ≡ moves_of blocks [] ++ map move_of tail
moves_split blocks tail = grind (arith, append-nil, map-append)

-- the moves of blocks with one more at the end are the moves of the others, and then that one's
pub moves_more : (blocks : List (List ℕ)) (last : List ℕ)
    → moves_of (blocks ++ last ∷ []) [] ≡ moves_of blocks [] ++ map move_of last
moves_more blocks last = moves_folded blocks last ∙ moves_split blocks last
