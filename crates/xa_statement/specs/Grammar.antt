-- The grammar of statements, one constructor for each row of the table in docs/STATEMENTS.md#grammar.
--     XidTokens tokens xid       the tokens are an identifier
--     Row tokens statement       the tokens are those of a row of the table, which is this statement
--     Says tokens statement      the same, with at most one ; after it
--     Spells text statement      the tokens of the text say the statement
--     MayGoOn tokens             a statement's tokens begin with these
--     StartWord, JoinWord        the words START and BEGIN;  JOIN and RESUME
--     Literal, Number            a token that can be this literal;  this number
use Rattle.std.specs.Prelude.{ℕ, true, false, ◌<◌, Option, Some, List, [], ◌∷◌, ◌++◌, length}
use Rattle.xa_xid.specs.{Xid.Text, XidText.{xid_of, no_text}, declared.{xid.Xid.Xid, statement.Statement.Statement}}
use Rattle.xa_statement.specs.{declared.token.{Keyword.Keyword, Token.Token}, Token.{tokens_of, bare}}
use Rattle.xa_statement.specs.declared.token.Token.TheVariants.{Word, Comma, Semicolon, Value}

-- a token that can be this literal, and perhaps also a number
abbrev pub Literal : Text → Option ℕ → Token
Literal text number = Value (Some text) number

-- a token that can be this number, and perhaps also a literal
abbrev pub Number : Option Text → ℕ → Token
Number literal number = Value literal (Some number)

-- gtrid [, bqual [, formatID]] (manual, 'XA Transaction SQL Statements')
pub data XidTokens : List Token → Xid → Type 0 where
  gtrid : (name : Text) (number : Option ℕ) → XidTokens (Literal name number ∷ []) (xid_of name no_text 1)
  gtrid_bqual : (name branch : Text) (number other : Option ℕ)
      → XidTokens (Literal name number ∷ Comma ∷ Literal branch other ∷ []) (xid_of name branch 1)
  gtrid_bqual_format : (name branch : Text) (number other : Option ℕ) (literal : Option Text) (format_id : ℕ)
      → XidTokens (Literal name number ∷ Comma ∷ Literal branch other ∷ Comma ∷ Number literal format_id ∷ [])
      (xid_of name branch format_id)

-- the second word of XA START: START or BEGIN, which mean the same
pub data StartWord : Keyword → Type 0 where
  is_start : StartWord Keyword.Start
  is_begin : StartWord Keyword.Begin

-- the word of a clause that may stand behind the identifier in XA START, and which the server refuses
pub data JoinWord : Keyword → Type 0 where
  is_join : JoinWord Keyword.Join
  is_resume : JoinWord Keyword.Resume

-- the rows of the table (manual, 'XA Transaction SQL Statements'; the last four are our own): which statement the
-- tokens are. With JOIN, RESUME or SUSPEND it is unsupported. A key isn't empty
pub data Row : List Token → Statement → Type 0 where
  start : {word : Keyword} {parts : List Token} {xid : Xid} → StartWord word → XidTokens parts xid
      → Row (Word Keyword.Xa ∷ Word word ∷ parts) (Statement.Start xid)
  start_clause : {word clause : Keyword} {parts : List Token} {xid : Xid} → StartWord word → XidTokens parts xid
      → JoinWord clause
      → Row (Word Keyword.Xa ∷ Word word ∷ parts ++ Word clause ∷ []) Statement.Unsupported
  end : {parts : List Token} {xid : Xid} → XidTokens parts xid → Row (Word Keyword.Xa ∷ Word Keyword.End ∷ parts)
      (Statement.End xid)
  end_suspend : {parts : List Token} {xid : Xid} → XidTokens parts xid
      → Row (Word Keyword.Xa ∷ Word Keyword.End ∷ parts ++ Word Keyword.Suspend ∷ []) Statement.Unsupported
  end_suspend_for : {parts : List Token} {xid : Xid} → XidTokens parts xid
      → Row (Word Keyword.Xa ∷ Word Keyword.End ∷ parts ++ Word Keyword.Suspend ∷ Word Keyword.For ∷ Word
      Keyword.Migrate ∷ []) Statement.Unsupported
  prepare : {parts : List Token} {xid : Xid} → XidTokens parts xid → Row
      (Word Keyword.Xa ∷ Word Keyword.Prepare ∷ parts) (Statement.Prepare xid)
  commit : {parts : List Token} {xid : Xid} → XidTokens parts xid
      → Row (Word Keyword.Xa ∷ Word Keyword.Commit ∷ parts) (Statement.Commit xid false)
  commit_one : {parts : List Token} {xid : Xid} → XidTokens parts xid
      → Row (Word Keyword.Xa ∷ Word Keyword.Commit ∷ parts ++ Word Keyword.One ∷ Word Keyword.Phase ∷ [])
      (Statement.Commit xid true)
  rollback : {parts : List Token} {xid : Xid} → XidTokens parts xid
      → Row (Word Keyword.Xa ∷ Word Keyword.Rollback ∷ parts) (Statement.Rollback xid)
  recover : Row (Word Keyword.Xa ∷ Word Keyword.Recover ∷ []) (Statement.Recover false)
  recover_convert : Row (Word Keyword.Xa ∷ Word Keyword.Recover ∷ Word Keyword.Convert ∷ Word Keyword.Xid ∷ [])
      (Statement.Recover true)
  get : (key : Text) (number : Option ℕ) → 0 < length key.items
      → Row (Word Keyword.Get ∷ Literal key number ∷ []) (Statement.Get key.items)
  put : (key value : Text) (number other : Option ℕ) → 0 < length key.items
      → Row (Word Keyword.Put ∷ Literal key number ∷ Comma ∷ Literal value other ∷ []) (Statement.Put key.items value)
  del : (key : Text) (number : Option ℕ) → 0 < length key.items
      → Row (Word Keyword.Del ∷ Literal key number ∷ []) (Statement.Del key.items)
  disconnect : Row (Word Keyword.Disconnect ∷ []) Statement.Disconnect

-- a row, after which one ; may come
pub data Says : List Token → Statement → Type 0 where
  bare_row : {tokens : List Token} {statement : Statement} → Row tokens statement → Says tokens statement
  ended_row : {tokens : List Token} {statement : Statement} → Row tokens statement
      → Says (tokens ++ Semicolon ∷ []) statement

-- the tokens of the text, cut with blanks before, between and after them, are those of the statement, maybe with one ;
-- behind
abbrev pub Spells : List ℕ → Statement → Type 0
Spells text statement = Says (bare (tokens_of text)) statement

-- some statement's tokens begin with these
pub record MayGoOn (tokens : List Token) : Type 0 where
  pub more : List Token
  pub statement : Statement
  pub says : Says (tokens ++ more) statement
