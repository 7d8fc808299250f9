-- How far a statement has been read after each token: a machine whose states carry what was read.
--     after_token state token  the state after one more token
--     finish state           the statement, if the tokens so far are one
--     after_word, after_comma, after_value      the state after one more token of this kind
--     unended state          the statement before its ;
use Rattle.std.specs.Prelude.{ℕ, true, false, Option, Some, None, List, [], ◌∷◌}
use Rattle.xa_xid.specs.{Xid.Text, XidText.{xid_of, no_text}, declared.{xid.Xid.Xid, statement.Statement.Statement}}
use Rattle.xa_statement.specs.declared.{token.{Keyword.Keyword, Token.Token}, state.{Verb.Verb, RowVerb.RowVerb}}
use Rattle.xa_statement.specs.declared.state.{RowVerb.TheVariants.{Gets, Puts, Deletes}, State.State}

-- the statement of a verb and an xid, without ONE PHASE
abbrev pub statement_of : Verb → Xid → Statement
statement_of Verb.Starts xid = Statement.Start xid
statement_of Verb.Ends xid = Statement.End xid
statement_of Verb.Prepares xid = Statement.Prepare xid
statement_of Verb.Commits xid = Statement.Commit xid false
statement_of Verb.RollsBack xid = Statement.Rollback xid

-- the state after a word behind an identifier; none if the verb has no clause that begins with it
abbrev pub xid_word : Verb → Xid → Keyword → Option State
xid_word Verb.Starts xid Keyword.Join = Some (State.Whole Statement.Unsupported)
xid_word Verb.Starts xid Keyword.Resume = Some (State.Whole Statement.Unsupported)
xid_word Verb.Ends xid Keyword.Suspend = Some State.AfterSuspend
xid_word Verb.Commits xid Keyword.One = Some (State.AfterOne xid)
xid_word _ _ _ = None

-- the state after a word of the grammar; none if it may not come in this state
abbrev pub after_word : State → Keyword → Option State
after_word State.AtFirst Keyword.Xa = Some State.AfterXa
after_word State.AtFirst Keyword.Get = Some (State.WantsKey Gets)
after_word State.AtFirst Keyword.Put = Some (State.WantsKey Puts)
after_word State.AtFirst Keyword.Del = Some (State.WantsKey Deletes)
after_word State.AtFirst Keyword.Disconnect = Some (State.Whole Statement.Disconnect)
after_word State.AfterXa Keyword.Start = Some (State.WantsGtrid Verb.Starts)
after_word State.AfterXa Keyword.Begin = Some (State.WantsGtrid Verb.Starts)
after_word State.AfterXa Keyword.End = Some (State.WantsGtrid Verb.Ends)
after_word State.AfterXa Keyword.Prepare = Some (State.WantsGtrid Verb.Prepares)
after_word State.AfterXa Keyword.Commit = Some (State.WantsGtrid Verb.Commits)
after_word State.AfterXa Keyword.Rollback = Some (State.WantsGtrid Verb.RollsBack)
after_word State.AfterXa Keyword.Recover = Some State.AfterRecover
after_word (State.AfterGtrid verb gtrid) word = xid_word verb (xid_of gtrid no_text 1) word
after_word (State.AfterBqual verb gtrid bqual) word = xid_word verb (xid_of gtrid bqual 1) word
after_word (State.AfterXid verb xid) word = xid_word verb xid word
after_word State.AfterSuspend Keyword.For = Some State.AfterFor
after_word State.AfterFor Keyword.Migrate = Some (State.Whole Statement.Unsupported)
after_word (State.AfterOne xid) Keyword.Phase = Some (State.Whole (Statement.Commit xid true))
after_word State.AfterRecover Keyword.Convert = Some State.AfterConvert
after_word State.AfterConvert Keyword.Xid = Some (State.Whole (Statement.Recover true))
after_word _ _ = None

-- the state after a comma; none if one may not come in this state
abbrev pub after_comma : State → Option State
after_comma (State.AfterGtrid verb gtrid) = Some (State.WantsBqual verb gtrid)
after_comma (State.AfterBqual verb gtrid bqual) = Some (State.WantsFormatId verb gtrid bqual)
after_comma (State.AfterKey key) = Some (State.WantsValue key)
after_comma _ = None

-- the state after a key, by what its verb wants next
abbrev pub after_key : RowVerb → List ℕ → State
after_key Gets key = State.Whole (Statement.Get key)
after_key Puts key = State.AfterKey key
after_key Deletes key = State.Whole (Statement.Del key)

-- the state after a literal in the place of a key; none if the literal is empty
abbrev pub key_state : RowVerb → List ℕ → Option State
key_state verb [] = None
key_state verb (byte ∷ bytes) = Some (after_key verb (byte ∷ bytes))

-- the state after a token that is a literal, a number or both: each state takes the one that it wants; none if that
-- is missing, the state wants neither, or a key is empty
abbrev pub after_value : State → Option Text → Option ℕ → Option State
after_value (State.WantsGtrid verb) (Some text) _ = Some (State.AfterGtrid verb text)
after_value (State.WantsBqual verb gtrid) (Some text) _ = Some (State.AfterBqual verb gtrid text)
after_value (State.WantsFormatId verb gtrid bqual) _ (Some number) = Some
    (State.AfterXid verb (xid_of gtrid bqual number))
after_value (State.WantsKey verb) (Some text) _ = key_state verb text.items
after_value (State.WantsValue key) (Some text) _ = Some (State.Whole (Statement.Put key text))
after_value _ _ _ = None

-- the statement that was read, if it is whole and its ; hasn't come yet; else none
abbrev pub unended : State → Option Statement
unended (State.AfterGtrid verb gtrid) = Some (statement_of verb (xid_of gtrid no_text 1))
unended (State.AfterBqual verb gtrid bqual) = Some (statement_of verb (xid_of gtrid bqual 1))
unended (State.AfterXid verb xid) = Some (statement_of verb xid)
unended State.AfterSuspend = Some Statement.Unsupported
unended State.AfterRecover = Some (Statement.Recover false)
unended (State.Whole statement) = Some statement
unended _ = None

-- the state after a semicolon, by the statement that was whole before it; none if there was none
abbrev pub ended : Option Statement → Option State
ended None = None
ended (Some statement) = Some (State.Ended statement)

-- the state after one more token; none if no statement goes on with it
unfoldable pub after_token : State → Token → Option State
after_token state (Token.Word word) = after_word state word
after_token state Token.Comma = after_comma state
after_token state Token.Semicolon = ended (unended state)
after_token state (Token.Value literal number) = after_value state literal number

-- the statement, if the tokens so far are a whole one (a ; may have come or not); else none
unfoldable pub finish : State → Option Statement
finish (State.Ended statement) = Some statement
finish state = unended state
