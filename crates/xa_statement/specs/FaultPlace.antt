-- The place where a text stops being a statement.
--     FaultAt text place     no statement is spelled, and this is the place of the fault
use Rattle.std.specs.Prelude.{◌≡◌, ℕ, ◌+◌, List, [], ◌∷◌, ◌++◌, length}
use Rattle.xa_xid.specs.declared.statement.Statement.{Statement}
use Rattle.xa_statement.specs.{declared.token.Token.Token, Grammar.{Spells, MayGoOn}, Token.{Piece, tokens_of, bare}}

-- the first token with which no statement can go on; or the end of a text that ends too soon (own rule)
pub data FaultAt (text : List ℕ) : ℕ → Type 0 where
  at_token : (place left : ℕ) (front back : List Piece) (token : Token) → tokens_of text ≡ front ++ (token, left) ∷ back
      → MayGoOn (bare front) → (MayGoOn (bare front ++ token ∷ []) → ⊥) → place + left ≡ length text
      → FaultAt text place
  at_end : ((statement : Statement) → Spells text statement → ⊥) → MayGoOn (bare (tokens_of text))
      → FaultAt text (length text)
