-- A text read as a statement: the statement, or the place of the fault.
--     read_from state pieces     the statement, or the number of bytes from the faulty token to the end
--     read_of text               the statement, or the place of the fault
use Rattle.std.specs.Prelude.{ℕ, ◌-◌, Option, Some, None, Result, Ok, Err, List, [], ◌∷◌, length}
use Rattle.xa_xid.specs.declared.statement.Statement.{Statement}
use Rattle.xa_statement.specs.declared.{state.State.{State, TheVariants.AtFirst}, syntax_fault.SyntaxFault.SyntaxFault}
use Rattle.xa_statement.specs.{Machine.{after_token, finish}, Token.{Piece, tokens_of}}

-- at the end of a text: the statement, or a fault with no bytes left
abbrev pub read_end : Option Statement → Result Statement ℕ
read_end None = Err 0
read_end (Some statement) = Ok statement

-- reading goes on from a state: the statement, or the number of bytes from the faulty token to the end
unfoldable pub read_from : State → List Piece → Result Statement ℕ
read_from state [] = read_end (finish state)
read_from state (piece ∷ more) =
    elim (after_token state piece.0) [ None ↦ Err piece.1 | Some next ↦ read_from next more ]

-- what was read, with the fault's place counted from the beginning of the text, not from its end
abbrev pub placed_in : List ℕ → Result Statement ℕ → Result Statement ℕ
placed_in text (Ok statement) = Ok statement
placed_in text (Err left) = Err (length text - left)

-- the statement that a text spells, or the place of its fault
unfoldable pub read_of : List ℕ → Result Statement ℕ
read_of text = placed_in text (read_from AtFirst (tokens_of text))

-- what a program gets of a reading: the statement, or the place as a fault
abbrev pub seen_of : Result Statement ℕ → Result Statement SyntaxFault
seen_of (Ok statement) = Ok statement
seen_of (Err place) = Err (record { at = place })
