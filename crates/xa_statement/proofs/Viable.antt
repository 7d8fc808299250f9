-- Each state can still become a statement; and where the machine has no state, no statement begins so.
use Rattle.std.proofs.Common.{◌≡◌, true, false, List, [], ◌∷◌, ◌++◌, append_assoc, Option, Some, None, refl, sym, ◌∙◌}
use Rattle.std.proofs.{Common.ap, lemmas.List.append-nil}
use Rattle.xa_xid.specs.{Xid.Text, XidText.{xid_of, no_text}, declared.statement.Statement.Statement}
use Rattle.xa_statement.specs.declared.token.{Keyword.Keyword, Token.{Token, TheVariants.{Word, Comma, Value}}}
use Rattle.xa_statement.specs.declared.state.{RowVerb.TheVariants.{Gets, Puts, Deletes}, State.State}
use Rattle.xa_statement.specs.declared.state.State.TheVariants.{AtFirst, AfterXa, WantsGtrid, AfterGtrid, WantsBqual}
use Rattle.xa_statement.specs.declared.state.State.TheVariants.{AfterBqual, WantsFormatId, AfterXid, AfterSuspend}
use Rattle.xa_statement.specs.declared.state.State.TheVariants.{AfterFor, AfterOne, AfterRecover, AfterConvert}
use Rattle.xa_statement.specs.declared.state.State.TheVariants.{WantsKey, AfterKey, WantsValue, Whole, Ended}
use Rattle.xa_statement.specs.{Grammar.{Says, bare_row, MayGoOn}, Machine.{after_token, finish, unended, statement_of}}
use Rattle.xa_statement.proofs.Walk.{walk, walk_on, walk-nil, walk-cons, walk_then, walk-append, walk-stop, answer}
use Rattle.xa_statement.proofs.{Walk.said_read, Fronts.{Front, FrontOf, RowOf, row_of, next}}

-- the step of `reach`: if the tokens behind a token lead, from the state that it led to, to a state whose tokens are
-- all of them, so do the token and those behind it
reach_on : (reached : Option State) (token : Token) (more tokens : List Token) → FrontOf reached (tokens ++ token ∷ [])
    → ((s : State) → Front s (tokens ++ token ∷ []) → FrontOf (walk s more) ((tokens ++ token ∷ []) ++ more))
    → FrontOf (walk_on reached more) (tokens ++ token ∷ more)
reach_on None token more tokens f each = tt
reach_on (Some s) token more tokens f each = rw append_assoc at (each s f)

-- tokens that lead on from a state lead, if anywhere, to one whose tokens are those that led to the first state, and
-- these
pub reach : (more : List Token) (state : State) (tokens : List Token) → Front state tokens
    → FrontOf (walk state more) (tokens ++ more)
reach [] state tokens f = rw (walk-nil state, append-nil tokens) f
reach (token ∷ more) state tokens f =
    rw (walk-cons state token more)
    (reach_on (after_token state token) token more tokens (next state token tokens f)
    (λ s g. reach more s (tokens ++ token ∷ []) g))

-- if there is a statement, the tokens say it
abbrev pub SaysOf : Option Statement → List Token → Type 0
SaysOf None tokens = Unit {0}
SaysOf (Some statement) tokens = Says tokens statement

-- tokens that are the row of a statement say it
said_row : (found : Option Statement) (tokens : List Token) → RowOf found tokens → SaysOf found tokens
said_row None tokens row = tt
said_row (Some statement) tokens row = bare_row row

-- if a state is that of a statement, the tokens that lead to it say this statement
pub said : (state : State) (tokens : List Token) → Front state tokens → SaysOf (finish state) tokens
unfolding finish
said (Ended statement) tokens f = f
said (AfterGtrid verb g) tokens f = said_row (unended (AfterGtrid verb g)) tokens (row_of (AfterGtrid verb g) tokens f)
said (AfterBqual verb g b) tokens f =
    said_row (unended (AfterBqual verb g b)) tokens (row_of (AfterBqual verb g b) tokens f)
said (AfterXid verb xid) tokens f = said_row (unended (AfterXid verb xid)) tokens (row_of (AfterXid verb xid) tokens f)
said AfterSuspend tokens f = said_row (unended AfterSuspend) tokens (row_of AfterSuspend tokens f)
said AfterRecover tokens f = said_row (unended AfterRecover) tokens (row_of AfterRecover tokens f)
said (Whole statement) tokens f = said_row (unended (Whole statement)) tokens f
said _ tokens f = tt

-- if a state was reached and is that of a statement, the tokens that lead to it say this statement
said_of : (reached : Option State) (tokens : List Token) → FrontOf reached tokens → SaysOf (answer reached) tokens
said_of None tokens f = tt
said_of (Some state) tokens f = said state tokens f

-- if more tokens lead from a state to a statement, the tokens that led to the state may go on to a statement
way : (state : State) (tokens more : List Token) (statement : Statement) → answer (walk state more) ≡ Some statement
    → Front state tokens → MayGoOn tokens
way state tokens more statement e f = record {
  more = more;
  statement = statement;
  says = rw e at (said_of (walk state more) (tokens ++ more) (reach more state tokens f));
}

-- a token that can be a gtrid or bqual: the empty literal, which is no number
abbrev any_literal : Token
any_literal = Value (Some no_text) None

-- a literal that isn't empty, as a key has to be
abbrev one_byte : Text
one_byte = record { items = 0 ∷ [] }

-- a token that can be a key: a literal of one byte, which is no number
abbrev any_key : Token
any_key = Value (Some one_byte) None

-- the tokens that lead to a state may go on to a statement, for each state
pub goes_on : (state : State) (tokens : List Token) → Front state tokens → MayGoOn tokens
unfolding walk after_token finish
goes_on AtFirst ts f = way AtFirst ts (Word Keyword.Disconnect ∷ []) Statement.Disconnect refl f
goes_on AfterXa ts f = way AfterXa ts (Word Keyword.Recover ∷ []) (Statement.Recover false) refl f
goes_on (WantsGtrid verb) ts f =
    way (WantsGtrid verb) ts (any_literal ∷ []) (statement_of verb (xid_of no_text no_text 1)) refl f
goes_on (AfterGtrid verb g) ts f = way (AfterGtrid verb g) ts [] (statement_of verb (xid_of g no_text 1)) refl f
goes_on (WantsBqual verb g) ts f =
    way (WantsBqual verb g) ts (any_literal ∷ []) (statement_of verb (xid_of g no_text 1)) refl f
goes_on (AfterBqual verb g b) ts f = way (AfterBqual verb g b) ts [] (statement_of verb (xid_of g b 1)) refl f
goes_on (WantsFormatId verb g b) ts f =
    way (WantsFormatId verb g b) ts (Value None (Some 0) ∷ []) (statement_of verb (xid_of g b 0)) refl f
goes_on (AfterXid verb xid) ts f = way (AfterXid verb xid) ts [] (statement_of verb xid) refl f
goes_on AfterSuspend ts f = way AfterSuspend ts [] Statement.Unsupported refl f
goes_on AfterFor ts f = way AfterFor ts (Word Keyword.Migrate ∷ []) Statement.Unsupported refl f
goes_on (AfterOne xid) ts f = way (AfterOne xid) ts (Word Keyword.Phase ∷ []) (Statement.Commit xid true) refl f
goes_on AfterRecover ts f = way AfterRecover ts [] (Statement.Recover false) refl f
goes_on AfterConvert ts f = way AfterConvert ts (Word Keyword.Xid ∷ []) (Statement.Recover true) refl f
goes_on (WantsKey Gets) ts f = way (WantsKey Gets) ts (any_key ∷ []) (Statement.Get (0 ∷ [])) refl f
goes_on (WantsKey Puts) ts f = way (WantsKey Puts) ts (any_key ∷ Comma ∷ any_literal ∷ [])
    (Statement.Put (0 ∷ []) no_text) refl f
goes_on (WantsKey Deletes) ts f = way (WantsKey Deletes) ts (any_key ∷ []) (Statement.Del (0 ∷ [])) refl f
goes_on (AfterKey key) ts f = way (AfterKey key) ts (Comma ∷ any_literal ∷ []) (Statement.Put key no_text) refl f
goes_on (WantsValue key) ts f = way (WantsValue key) ts (any_literal ∷ []) (Statement.Put key no_text) refl f
goes_on (Whole statement) ts f = way (Whole statement) ts [] statement refl f
goes_on (Ended statement) ts f = way (Ended statement) ts [] statement refl f

-- None is never Some
pub none_is_some : {A : Type 0} (value : A) → None ≡ Some value → ⊥
none_is_some value e = cc

-- if the tokens lead to an answer, the first of them led to a state
pub some_reached : (reached : Option State) (more : List Token) (statement : Statement)
    → answer (walk_on reached more) ≡ Some statement
    → (s : State) × (reached ≡ Some s)
some_reached None more statement e = let no : None ≡ Some statement = e in absurd (none_is_some statement no)
some_reached (Some s) more statement e = (s, refl)

-- if a statement's tokens begin with these, the machine has a state after them
pub viable : (tokens : List Token) → MayGoOn tokens → (s : State) × (walk AtFirst tokens ≡ Some s)
viable tokens m =
    some_reached (walk AtFirst tokens) m.more m.statement
    (ap answer (sym (walk-append tokens m.more AtFirst)) ∙ said_read (tokens ++ m.more) m.statement m.says)

-- if the state after some tokens has no next one for a token, no statement begins with them and it
pub stuck : (tokens : List Token) (token : Token) (s : State) → walk AtFirst tokens ≡ Some s
    → after_token s token ≡ None → MayGoOn (tokens ++ token ∷ []) → ⊥
stuck tokens token s e stops m =
    let reached = viable (tokens ++ token ∷ []) m in
    let none : walk AtFirst (tokens ++ token ∷ []) ≡ None =
    walk_then tokens (token ∷ []) AtFirst s e ∙ walk-stop s token [] stops in
    none_is_some reached.0 (sym none ∙ reached.1)
