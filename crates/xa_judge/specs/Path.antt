-- Moves as codes.
use Rattle.std.specs.{Prelude.{ℕ, ◌-◌, ltb, cond, List, ◌++◌, map}, List.concat}
use Rattle.xa_judge.specs.declared.moves.{Act.Act, Move.{Move, TheVariants.{Event, Effect}}}

-- the move of a code: 1 to 16 are the sessions' statements, 17 to 32 their DISCONNECT, and any other is the next
-- event
unfoldable pub move_of : ℕ → Move
-- the move of a code
move_of code =
    cond (ltb 0 code) (cond (ltb code 17) (Effect code Act.Statement)
    (cond (ltb code 33) (Effect (code - 16) Act.Disconnect) Event)) Event

-- the moves of all codes in the blocks, and then of those in the tail, in order
abbrev pub moves_of : List (List ℕ) → List ℕ → List Move
moves_of blocks tail = map move_of (concat blocks ++ tail)
