-- The result of reading a part of a text, whatever was read before it.
--     Goes state text next rest      reading `text` from the first state on is reading `rest` from the second one on
--     TakesToken token text rest     the token is the first of the text, and `rest` comes after it
--     TakesLiteral text found rest   the same of a literal; TakesNumber of a number
--     Leads state text said rest     reading comes to `rest` and a state of a whole statement
--     Ends text                      the text can end each whole statement: blanks and at most one ;
--     plain_in, Closes               a byte between quotes that stands for itself;  the closing quote comes first
use Rattle.std.specs.Prelude.{◌≡◌, ℕ, Bool, false, ◌==◌, not, if◌then◌else◌, List, [], ◌∷◌, Option, Some, Ok}
use Rattle.xa_xid.specs.{Xid.Text, declared.statement.Statement.Statement}
use Rattle.xa_statement.specs.declared.{state.State.State, token.Token.{Token, TheVariants.Value}}
use Rattle.xa_statement.specs.{Machine.{after_token, unended, finish}, Reading.read_from, Token.tokens_of}

-- a byte between quotes that stands for itself
abbrev pub plain_in : ℕ → ℕ → Bool
plain_in quote byte = if byte == quote then false else not (byte == 92)

-- the text begins with the byte
abbrev pub heads : ℕ → List ℕ → Bool
heads byte [] = false
heads byte (first ∷ _) = first == byte

-- the text begins with a quote that isn't the first of two, and `rest` comes after it
abbrev pub Closes : ℕ → List ℕ → List ℕ → Type 0
Closes quote text rest = (text ≡ quote ∷ rest) × (heads quote rest ≡ false)

-- reading the first text from the first state is reading the second from the second
abbrev pub Goes : State → List ℕ → State → List ℕ → Type 0
Goes state text next rest = read_from state (tokens_of text) ≡ read_from next (tokens_of rest)

-- the token is the first of the text, after blanks, and `rest` comes after it: from each state that takes the token,
-- reading the text is reading `rest` from the next state
abbrev pub TakesToken : Token → List ℕ → List ℕ → Type 0
TakesToken token text rest = (state next : State) → after_token state token ≡ Some next → Goes state text next rest

-- the text begins, after blanks, with a token that is this literal, and perhaps also a number; `rest` comes after it
abbrev pub TakesLiteral : List ℕ → Text → List ℕ → Type 0
TakesLiteral text found rest = (number : Option ℕ) × TakesToken (Value (Some found) number) text rest

-- the text begins, after blanks, with a token that is this number, and perhaps also a literal; `rest` comes after it
abbrev pub TakesNumber : List ℕ → ℕ → List ℕ → Type 0
TakesNumber text number rest = (literal : Option Text) × TakesToken (Value literal (Some number)) text rest

-- reading the text comes to `rest` and a state in which this statement is whole, and its ; may still come
abbrev pub Leads : State → List ℕ → Statement → List ℕ → Type 0
Leads state text said rest =
    (next : State) × (Goes state text next rest × ((unended next ≡ Some said) × (finish next ≡ Some said)))

-- reading the text from each state of a whole statement, whose ; may still come, gives that statement; such texts are
-- blanks, with or without one ; among them
abbrev pub Ends : List ℕ → Type 0
Ends text = (state : State) (said : Statement) → unended state ≡ Some said → finish state ≡ Some said
    → read_from state (tokens_of text) ≡ Ok said
