-- The tokens that lead to each state, and that one token more leads to a state with that token behind them.
use Rattle.std.proofs.Common.{◌≡◌, ◌<◌, ℕ, length, arith, List, [], ◌∷◌, ◌++◌, append_assoc, Option, Some, None, refl}
use Rattle.std.proofs.Common.{◌∙◌, ap}
use Rattle.xa_xid.specs.{Xid.Text, XidText.{xid_of, no_text}, declared.{xid.Xid.Xid, statement.Statement.Statement}}
use Rattle.xa_statement.specs.declared.token.Keyword.{Keyword, TheVariants.{Xa as XA, Start as START, Begin as BEGIN}}
use Rattle.xa_statement.specs.declared.token.Keyword.TheVariants.{End as END, Prepare as PREPARE, Commit as COMMIT}
use Rattle.xa_statement.specs.declared.token.Keyword.TheVariants.{Rollback as ROLLBACK, Recover as RECOVER}
use Rattle.xa_statement.specs.declared.token.Keyword.TheVariants.{Join as JOIN, Resume as RESUME, Suspend as SUSPEND}
use Rattle.xa_statement.specs.declared.token.Keyword.TheVariants.{For as FOR, Migrate as MIGRATE, One as ONE}
use Rattle.xa_statement.specs.declared.token.Keyword.TheVariants.{Phase as PHASE, Convert as CONVERT, Xid as XID}
use Rattle.xa_statement.specs.declared.token.Keyword.TheVariants.{Get as GET, Put as PUT, Del as DEL}
use Rattle.xa_statement.specs.declared.token.{Keyword.TheVariants.Disconnect as DISCONNECT, Token.Token}
use Rattle.xa_statement.specs.declared.{token.Token.TheVariants.{Word, Comma, Semicolon, Value}, state.Verb.Verb}
use Rattle.xa_statement.specs.declared.state.{RowVerb.{RowVerb, TheVariants.{Gets, Puts, Deletes}}, State.State}
use Rattle.xa_statement.specs.declared.state.State.TheVariants.{AtFirst, AfterXa, WantsGtrid, AfterGtrid, WantsBqual}
use Rattle.xa_statement.specs.declared.state.State.TheVariants.{AfterBqual, WantsFormatId, AfterXid, AfterSuspend}
use Rattle.xa_statement.specs.declared.state.State.TheVariants.{AfterFor, AfterOne, AfterRecover, AfterConvert}
use Rattle.xa_statement.specs.declared.state.State.TheVariants.{WantsKey, AfterKey, WantsValue, Whole, Ended}
use Rattle.xa_statement.specs.Grammar.{XidTokens, gtrid, gtrid_bqual, gtrid_bqual_format, StartWord, is_start, is_begin}
use Rattle.xa_statement.specs.Grammar.{is_join, is_resume, Row, start, start_clause, end, end_suspend, end_suspend_for}
use Rattle.xa_statement.specs.Grammar.{prepare, commit, commit_one, rollback, recover, recover_convert, get, put, del}
use Rattle.xa_statement.specs.{Grammar.{disconnect, Says, ended_row}, Machine.{after_token, unended, ended}}
use Rattle.xa_statement.specs.Machine.{statement_of, xid_word, key_state, after_word, after_comma, after_value}

-- the word leads to the verb
abbrev pub VerbWord : Verb → Keyword → Type 0
VerbWord Verb.Starts word = StartWord word
VerbWord Verb.Ends word = word ≡ END
VerbWord Verb.Prepares word = word ≡ PREPARE
VerbWord Verb.Commits word = word ≡ COMMIT
VerbWord Verb.RollsBack word = word ≡ ROLLBACK

-- the word that leads to a verb of a row
abbrev pub row_word : RowVerb → Keyword
row_word Gets = GET
row_word Puts = PUT
row_word Deletes = DEL

-- the tokens are XA, a word of the verb, and these more
pub record Opened (verb : Verb) (tail tokens : List Token) : Type 0 where
  pub word : Keyword
  pub is : VerbWord verb word
  pub same : tokens ≡ Word XA ∷ Word word ∷ tail

-- the tokens are XA, a word, an identifier, and these more
pub record ClauseOf (word : Keyword) (tail tokens : List Token) : Type 0 where
  pub x : List Token
  pub xid : Xid
  pub form : XidTokens x xid
  pub same : tokens ≡ Word XA ∷ Word word ∷ (x ++ tail)

-- the tokens are those of XA COMMIT with this identifier and the word ONE
pub record OnePhaseOf (xid : Xid) (tokens : List Token) : Type 0 where
  pub x : List Token
  pub form : XidTokens x xid
  pub same : tokens ≡ Word XA ∷ Word COMMIT ∷ (x ++ Word ONE ∷ [])

-- the tokens are PUT, a key that isn't empty, and these more
pub record KeyOf (key : List ℕ) (tail tokens : List Token) : Type 0 where
  pub text : Text
  pub number : Option ℕ
  pub some : 0 < length text.items
  pub is : key ≡ text.items
  pub same : tokens ≡ Word PUT ∷ Value (Some text) number ∷ tail

-- the tokens are XA, a word of the verb, and a whole identifier
pub record XidOf (verb : Verb) (xid : Xid) (tokens : List Token) : Type 0 where
  pub x : List Token
  pub form : XidTokens x xid
  pub before : Opened verb x tokens

-- the tokens are of a form that leads to the state
abbrev pub Front : State → List Token → Type 0
Front AtFirst tokens = tokens ≡ []
Front AfterXa tokens = tokens ≡ Word XA ∷ []
Front (WantsGtrid verb) tokens = Opened verb [] tokens
Front (AfterGtrid verb g) tokens = (m : Option ℕ) × Opened verb (Value (Some g) m ∷ []) tokens
Front (WantsBqual verb g) tokens = (m : Option ℕ) × Opened verb (Value (Some g) m ∷ Comma ∷ []) tokens
Front (AfterBqual verb g b) tokens =
    (m : Option ℕ) × ((n : Option ℕ) × Opened verb (Value (Some g) m ∷ Comma ∷ Value (Some b) n ∷ []) tokens)
Front (WantsFormatId verb g b) tokens =
    (m : Option ℕ) × ((n : Option ℕ) × Opened verb (Value (Some g) m ∷ Comma ∷ Value (Some b) n ∷ Comma ∷ []) tokens)
Front (AfterXid verb xid) tokens = XidOf verb xid tokens
Front AfterSuspend tokens = ClauseOf END (Word SUSPEND ∷ []) tokens
Front AfterFor tokens = ClauseOf END (Word SUSPEND ∷ Word FOR ∷ []) tokens
Front (AfterOne xid) tokens = OnePhaseOf xid tokens
Front AfterRecover tokens = tokens ≡ Word XA ∷ Word RECOVER ∷ []
Front AfterConvert tokens = tokens ≡ Word XA ∷ Word RECOVER ∷ Word CONVERT ∷ []
Front (WantsKey verb) tokens = tokens ≡ Word (row_word verb) ∷ []
Front (AfterKey key) tokens = KeyOf key [] tokens
Front (WantsValue key) tokens = KeyOf key (Comma ∷ []) tokens
Front (Whole statement) tokens = Row tokens statement
Front (Ended statement) tokens = Says tokens statement

-- if a state is reached, the tokens are some that lead to it
abbrev pub FrontOf : Option State → List Token → Type 0
FrontOf None tokens = Unit {0}
FrontOf (Some state) tokens = Front state tokens

-- one token more behind those that follow a verb keeps the verb and is the last of them
opened_more : (verb : Verb) (tail tokens : List Token) (token : Token) → Opened verb tail tokens
    → Opened verb (tail ++ token ∷ []) (tokens ++ token ∷ [])
opened_more verb tail tokens token o = record { word = o.word; is = o.is; same = ap (λ ts. ts ++ token ∷ []) o.same }

-- one token more behind XA, a word and an identifier is the last of the tokens behind the identifier
clause_more : (word : Keyword) (tail tokens : List Token) (token : Token) → ClauseOf word tail tokens
    → ClauseOf word (tail ++ token ∷ []) (tokens ++ token ∷ [])
clause_more word tail tokens token c = record {
  x = c.x;
  xid = c.xid;
  form = c.form;
  same = ap (λ ts. ts ++ token ∷ []) c.same ∙ ap (λ ts. Word XA ∷ Word word ∷ ts) (append_assoc c.x tail (token ∷ []));
}

-- one token more behind PUT and a key is the last of the tokens behind the key
key_more : (key : List ℕ) (tail tokens : List Token) (token : Token) → KeyOf key tail tokens
    → KeyOf key (tail ++ token ∷ []) (tokens ++ token ∷ [])
key_more key tail tokens token k = record {
  text = k.text;
  number = k.number;
  some = k.some;
  is = k.is;
  same = ap (λ ts. ts ++ token ∷ []) k.same;
}

-- a word behind a whole identifier leads, if anywhere, to a state whose tokens are those before, and the word
xid_next : (verb : Verb) (xid : Xid) (word : Keyword) (tokens : List Token) → XidOf verb xid tokens
    → FrontOf (xid_word verb xid word) (tokens ++ Word word ∷ [])
xid_next Verb.Starts xid JOIN tokens f = rw f.before.same (start_clause f.before.is f.form is_join)
xid_next Verb.Starts xid RESUME tokens f = rw f.before.same (start_clause f.before.is f.form is_resume)
xid_next Verb.Ends xid SUSPEND tokens f = record {
  x = f.x;
  xid = xid;
  form = f.form;
  same = ap (λ ts. ts ++ Word SUSPEND ∷ []) f.before.same
      ∙ ap (λ w. Word XA ∷ Word w ∷ (f.x ++ Word SUSPEND ∷ [])) f.before.is;
}
xid_next Verb.Commits xid ONE tokens f = record {
  x = f.x;
  form = f.form;
  same = ap (λ ts. ts ++ Word ONE ∷ []) f.before.same ∙ ap (λ w. Word XA ∷ Word w ∷ (f.x ++ Word ONE ∷ [])) f.before.is;
}
xid_next _ xid word tokens f = tt

-- a gtrid alone is an identifier, with an empty bqual and the formatID 1
gtrid_xid : (verb : Verb) (g : Text) (tokens : List Token) → Front (AfterGtrid verb g) tokens
    → XidOf verb (xid_of g no_text 1) tokens
gtrid_xid verb g tokens f = record { x = Value (Some g) f.0 ∷ []; form = gtrid g f.0; before = f.1 }

-- gtrid and bqual alone are an identifier, with the formatID 1
bqual_xid : (verb : Verb) (g b : Text) (tokens : List Token) → Front (AfterBqual verb g b) tokens
    → XidOf verb (xid_of g b 1) tokens
bqual_xid verb g b tokens f =
    record {
      x = Value (Some g) f.0 ∷ Comma ∷ Value (Some b) f.1.0
          ∷ [];
      form = gtrid_bqual g b f.0 f.1.0;
      before = f.1.1;
    }

-- a word leads, if anywhere, to a state whose tokens are those before, and the word
word_next : (state : State) (word : Keyword) (tokens : List Token) → Front state tokens
    → FrontOf (after_word state word) (tokens ++ Word word ∷ [])
word_next AtFirst XA tokens f = ap (λ ts. ts ++ Word XA ∷ []) f
word_next AtFirst GET tokens f = ap (λ ts. ts ++ Word GET ∷ []) f
word_next AtFirst PUT tokens f = ap (λ ts. ts ++ Word PUT ∷ []) f
word_next AtFirst DEL tokens f = ap (λ ts. ts ++ Word DEL ∷ []) f
word_next AtFirst DISCONNECT tokens f = rw f disconnect
word_next AfterXa START tokens f = record { word = START; is = is_start; same = ap (λ ts. ts ++ Word START ∷ []) f }
word_next AfterXa BEGIN tokens f = record { word = BEGIN; is = is_begin; same = ap (λ ts. ts ++ Word BEGIN ∷ []) f }
word_next AfterXa END tokens f = record { word = END; is = refl; same = ap (λ ts. ts ++ Word END ∷ []) f }
word_next AfterXa PREPARE tokens f = record { word = PREPARE; is = refl; same = ap (λ ts. ts ++ Word PREPARE ∷ []) f }
word_next AfterXa COMMIT tokens f = record { word = COMMIT; is = refl; same = ap (λ ts. ts ++ Word COMMIT ∷ []) f }
word_next AfterXa ROLLBACK tokens f =
    record { word = ROLLBACK; is = refl; same = ap (λ ts. ts ++ Word ROLLBACK ∷ []) f }
word_next AfterXa RECOVER tokens f = ap (λ ts. ts ++ Word RECOVER ∷ []) f
word_next (AfterGtrid verb g) word tokens f = xid_next verb (xid_of g no_text 1) word tokens (gtrid_xid verb g tokens f)
word_next (AfterBqual verb g b) word tokens f = xid_next verb (xid_of g b 1) word tokens (bqual_xid verb g b tokens f)
word_next (AfterXid verb xid) word tokens f = xid_next verb xid word tokens f
word_next AfterSuspend FOR tokens f = clause_more END (Word SUSPEND ∷ []) tokens (Word FOR) f
word_next AfterFor MIGRATE tokens f =
    let more = clause_more END (Word SUSPEND ∷ Word FOR ∷ []) tokens (Word MIGRATE) f in
    rw more.same (end_suspend_for more.form)
word_next (AfterOne xid) PHASE tokens f =
    let e : tokens ++ Word PHASE ∷ [] ≡ Word XA ∷ Word COMMIT ∷ (f.x ++ Word ONE ∷ Word PHASE ∷ []) =
    ap (λ ts. ts ++ Word PHASE ∷ []) f.same ∙ ap (λ ts. Word XA ∷ Word COMMIT ∷ ts)
    (append_assoc f.x (Word ONE ∷ []) (Word PHASE ∷ [])) in
    rw e (commit_one f.form)
word_next AfterRecover CONVERT tokens f = ap (λ ts. ts ++ Word CONVERT ∷ []) f
word_next AfterConvert XID tokens f = rw f recover_convert
word_next _ word tokens f = tt

-- a comma leads, if anywhere, to a state whose tokens are those before, and the comma
comma_next : (state : State) (tokens : List Token) → Front state tokens
    → FrontOf (after_comma state) (tokens ++ Comma ∷ [])
comma_next (AfterGtrid verb g) tokens f = (f.0, opened_more verb (Value (Some g) f.0 ∷ []) tokens Comma f.1)
comma_next (AfterBqual verb g b) tokens f =
    (f.0, (f.1.0, opened_more verb (Value (Some g) f.0 ∷ Comma ∷ Value (Some b) f.1.0 ∷ []) tokens Comma f.1.1))
comma_next (AfterKey key) tokens f = key_more key [] tokens Comma f
comma_next _ tokens f = tt

-- a literal in the place of a key leads, unless it is empty, to what its verb wants next
key_next : (verb : RowVerb) (text : Text) (number : Option ℕ) (tokens : List Token) (items : List ℕ)
    → items ≡ text.items → tokens ≡ Word (row_word verb) ∷ []
    → FrontOf (key_state verb items) (tokens ++ Value (Some text) number ∷ [])
key_next verb text number tokens [] e f = tt
key_next Gets text number tokens (byte ∷ bytes) e f =
    let some : 0 < length text.items = rw (← e) (omega arith) in rw (f, e) (get text number some)
key_next Puts text number tokens (byte ∷ bytes) e f =
    record {
      text = text;
      number = number;
      some = rw (← e) (omega arith);
      is = e;
      same = ap
          (λ ts. ts ++ Value (Some text) number ∷ []) f;
    }
key_next Deletes text number tokens (byte ∷ bytes) e f =
    let some : 0 < length text.items = rw (← e) (omega arith) in rw (f, e) (del text number some)

-- PUT with a key that isn't empty, a comma and a value is a row of the grammar
put_row : (key : List ℕ) (text value : Text) (m n : Option ℕ) (tokens : List Token) → 0 < length text.items
    → key ≡ text.items
    → tokens ≡ Word PUT ∷ Value (Some text) m ∷ Comma ∷ Value (Some value) n ∷ [] → Row tokens (Statement.Put key value)
put_row key text value m n tokens some e same = rw (same, e) (put text value m n some)

-- a value leads, if anywhere, to a state whose tokens are those before, and the value
value_next : (state : State) (literal : Option Text) (number : Option ℕ) (tokens : List Token) → Front state tokens
    → FrontOf (after_value state literal number) (tokens ++ Value literal number ∷ [])
value_next (WantsGtrid verb) (Some g) m tokens f = (m, opened_more verb [] tokens (Value (Some g) m) f)
value_next (WantsBqual verb g) (Some b) n tokens f =
    (f.0, (n, opened_more verb (Value (Some g) f.0 ∷ Comma ∷ []) tokens (Value (Some b) n) f.1))
value_next (WantsFormatId verb g b) l (Some format) tokens f = record {
  x = Value (Some g) f.0 ∷ Comma ∷ Value (Some b) f.1.0 ∷ Comma ∷ Value l (Some format) ∷ [];
  form = gtrid_bqual_format g b f.0 f.1.0 l format;
  before = opened_more verb (Value (Some g) f.0 ∷ Comma ∷ Value (Some b) f.1.0 ∷ Comma ∷ []) tokens
      (Value l (Some format)) f.1.1;
}
value_next (WantsKey verb) (Some text) m tokens f = key_next verb text m tokens text.items refl f
value_next (WantsValue key) (Some value) n tokens f =
    let more = key_more key (Comma ∷ []) tokens (Value (Some value) n) f in
    put_row key more.text value more.number n _ more.some more.is more.same
value_next _ literal number tokens f = tt

-- if there is a statement, the tokens are a row of the grammar that says it
abbrev pub RowOf : Option Statement → List Token → Type 0
RowOf None tokens = Unit {0}
RowOf (Some statement) tokens = Row tokens statement

-- a verb with an identifier is a row of the grammar
xid_row : (verb : Verb) (xid : Xid) (tokens : List Token) → XidOf verb xid tokens → Row tokens (statement_of verb xid)
xid_row Verb.Starts xid tokens f = rw f.before.same (start f.before.is f.form)
xid_row Verb.Ends xid tokens f = rw (f.before.same, f.before.is) (end f.form)
xid_row Verb.Prepares xid tokens f = rw (f.before.same, f.before.is) (prepare f.form)
xid_row Verb.Commits xid tokens f = rw (f.before.same, f.before.is) (commit f.form)
xid_row Verb.RollsBack xid tokens f = rw (f.before.same, f.before.is) (rollback f.form)

-- tokens that lead to a state which is a whole statement are that statement's row
pub row_of : (state : State) (tokens : List Token) → Front state tokens → RowOf (unended state) tokens
row_of (AfterGtrid verb g) tokens f = xid_row verb (xid_of g no_text 1) tokens (gtrid_xid verb g tokens f)
row_of (AfterBqual verb g b) tokens f = xid_row verb (xid_of g b 1) tokens (bqual_xid verb g b tokens f)
row_of (AfterXid verb xid) tokens f = xid_row verb xid tokens f
row_of AfterSuspend tokens f = rw f.same (end_suspend f.form)
row_of AfterRecover tokens f = rw f recover
row_of (Whole statement) tokens f = f
row_of _ tokens f = tt

-- a semicolon behind a whole statement leads to a state that has ended with it
semicolon_next : (found : Option Statement) (tokens : List Token) → RowOf found tokens
    → FrontOf (ended found) (tokens ++ Semicolon ∷ [])
semicolon_next None tokens row = tt
semicolon_next (Some statement) tokens row = ended_row row

-- any token leads, if anywhere, to a state whose tokens are those before, and the token
pub next : (state : State) (token : Token) (tokens : List Token) → Front state tokens
    → FrontOf (after_token state token) (tokens ++ token ∷ [])
unfolding after_token
next state (Word word) tokens f = word_next state word tokens f
next state Comma tokens f = comma_next state tokens f
next state Semicolon tokens f = semicolon_next (unended state) tokens (row_of state tokens f)
next state (Value literal number) tokens f = value_next state literal number tokens f
