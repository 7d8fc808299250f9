-- The machine led along tokens, and that it answers each row of the grammar.
use Rattle.std.proofs.Common.{◌≡◌, ◌<◌, ℕ, length, arith, true, List, [], ◌∷◌, ◌++◌, Option, Some, None, refl, sym, ◌∙◌}
use Rattle.std.proofs.Common.{ap}
use Rattle.xa_xid.specs.{XidText.xid_of, declared.{xid.Xid.Xid, statement.Statement.{Statement, TheVariants.Commit}}}
use Rattle.xa_xid.specs.declared.statement.Statement.TheVariants.{Recover, Unsupported, Get, Put, Del, Disconnect}
use Rattle.xa_statement.specs.declared.token.Keyword.{Keyword, TheVariants.{Xa as XA, Suspend as SUSPEND, For as FOR}}
use Rattle.xa_statement.specs.declared.token.Keyword.TheVariants.{Migrate as MIGRATE, One as ONE, Phase as PHASE}
use Rattle.xa_statement.specs.declared.{token.Token.{Token, TheVariants.{Word, Semicolon}}, state.Verb.Verb}
use Rattle.xa_statement.specs.declared.state.{RowVerb.{RowVerb, TheVariants.{Gets, Puts, Deletes}}, State.State}
use Rattle.xa_statement.specs.declared.state.State.TheVariants.{AtFirst, WantsGtrid, AfterGtrid, AfterBqual, AfterXid}
use Rattle.xa_statement.specs.declared.state.State.TheVariants.{AfterSuspend, AfterOne, AfterRecover, Whole, Ended}
use Rattle.xa_statement.specs.Grammar.{XidTokens, gtrid, gtrid_bqual, gtrid_bqual_format, StartWord, is_start, is_begin}
use Rattle.xa_statement.specs.Grammar.{JoinWord, is_join, is_resume, Row, start, start_clause, end, end_suspend}
use Rattle.xa_statement.specs.Grammar.{end_suspend_for, prepare, commit, commit_one, rollback, recover, recover_convert}
use Rattle.xa_statement.specs.{Grammar.{get, put, del, disconnect, Says, bare_row, ended_row}, Machine.after_token}
use Rattle.xa_statement.specs.Machine.{finish, unended, ended, statement_of, xid_word, key_state, after_key}

-- the state after these tokens, if each leads on
unfoldable pub walk : State → List Token → Option State
walk state [] = Some state
walk state (token ∷ more) = elim (after_token state token) [ None ↦ None | Some next ↦ walk next more ]

-- the state after these tokens, if there is a state before them
abbrev pub walk_on : Option State → List Token → Option State
walk_on None more = None
walk_on (Some next) more = walk next more

-- the statement that was read, if there is a state and a statement is whole in it
abbrev pub answer : Option State → Option Statement
answer None = None
answer (Some state) = finish state

-- a walk along no token stays in its state
pub walk-nil : (state : State) → walk state [] ≡ Some state
unfolding walk
walk-nil state = refl

-- a token that leads nowhere ends the walk
pub walk-stop : (state : State) (token : Token) (more : List Token) → after_token state token ≡ None
    → walk state (token ∷ more) ≡ None
unfolding walk
walk-stop state token more e = rw (e, walk) refl

-- a walk goes on from the state to which its first token leads
pub walk-go : (state next : State) (token : Token) (more : List Token) → after_token state token ≡ Some next
    → walk state (token ∷ more) ≡ walk next more
unfolding walk
walk-go state next token more e = rw (e, walk) refl

-- a walk takes its first token, and ends or goes on by where it leads
pub walk-cons : (state : State) (token : Token) (more : List Token)
    → walk state (token ∷ more) ≡ walk_on (after_token state token) more
walk-cons state token more =
    elim (after_token state token) as (λ o. after_token state token ≡ o → walk state (token ∷ more) ≡ walk_on o more) [
      | None ↦ λ e. walk-stop state token more e
      | Some next ↦ λ e. walk-go state next token more e
    ] refl

-- walking two lists of tokens is walking the second from where the first ends, if that is so from each state
walk_on-append : (reached : Option State) (front back : List Token)
    → ((s : State) → walk s (front ++ back) ≡ walk_on (walk s front) back)
    → walk_on reached (front ++ back) ≡ walk_on (walk_on reached front) back
walk_on-append None front back each = refl
walk_on-append (Some state) front back each = each state

-- walking two lists of tokens is walking the second from where the first ends
pub walk-append : (front back : List Token) (state : State)
    → walk state (front ++ back) ≡ walk_on (walk state front) back
walk-append [] back state = ap (λ o. walk_on o back) (sym (walk-nil state))
walk-append (token ∷ front) back state =
    walk-cons state token (front ++ back)
    ∙ walk_on-append (after_token state token) front back (λ s. walk-append front back s)
    ∙ ap (λ o. walk_on o back) (sym (walk-cons state token front))

-- if the first of two lists of tokens leads to a state, walking both is walking the second from that state
pub walk_then : (front back : List Token) (state next : State) → walk state front ≡ Some next
    → walk state (front ++ back) ≡ walk next back
walk_then front back state next e = walk-append front back state ∙ ap (λ o. walk_on o back) e

-- the tokens of an identifier lead from its verb to a state that says the statement
pub record XidRead (verb : Verb) (xid : Xid) (tokens : List Token) : Type 0 where
  pub state : State
  pub reached : walk (WantsGtrid verb) tokens ≡ Some state
  pub open_end : unended state ≡ Some (statement_of verb xid)
  pub closed_end : finish state ≡ Some (statement_of verb xid)
  pub goes : (word : Keyword) → after_token state (Word word) ≡ xid_word verb xid word

-- the tokens of an identifier lead from the verb to its statement
xid_read : (verb : Verb) (tokens : List Token) (xid : Xid) → XidTokens tokens xid → XidRead verb xid tokens
unfolding walk after_token finish
xid_read verb _ _ (gtrid g m) =
    record { state = AfterGtrid verb g; reached = refl; open_end = refl; closed_end = refl; goes = λ word. refl }
xid_read verb _ _ (gtrid_bqual g b m n) =
    record { state = AfterBqual verb g b; reached = refl; open_end = refl; closed_end = refl; goes = λ word. refl }
xid_read verb _ _ (gtrid_bqual_format g b m n l f) =
    record {
      state = AfterXid verb (xid_of g b f);
      reached = refl;
      open_end = refl;
      closed_end = refl;
      goes = λ word.
          refl;
    }

-- the tokens of a row lead to a state that says its statement, with a semicolon or without
pub record RowRead (tokens : List Token) (statement : Statement) : Type 0 where
  pub state : State
  pub reached : walk AtFirst tokens ≡ Some state
  pub open_end : unended state ≡ Some statement
  pub closed_end : finish state ≡ Some statement

-- a statement of a verb and an identifier is read, if the walk reaches the identifier's tokens
plain_row : (verb : Verb) (tokens x : List Token) (xid : Xid) → walk AtFirst tokens ≡ walk (WantsGtrid verb) x
    → XidTokens x xid
    → RowRead tokens (statement_of verb xid)
plain_row verb tokens x xid e form =
    let read = xid_read verb x xid form in
    record { state = read.state; reached = e ∙ read.reached; open_end = read.open_end; closed_end = read.closed_end }

-- the tokens of an identifier and a word behind it lead on by that word
clause_step : (verb : Verb) (x more : List Token) (xid : Xid) (word : Keyword) (next : State) → XidTokens x xid
    → xid_word verb xid word ≡ Some next
    → walk (WantsGtrid verb) (x ++ Word word ∷ more) ≡ walk next more
clause_step verb x more xid word next form e =
    let read = xid_read verb x xid form in
    walk_then x (Word word ∷ more) (WantsGtrid verb) read.state read.reached
    ∙ walk-go read.state next (Word word) more (read.goes word ∙ e)

-- XA START and XA BEGIN lead to the same state
start_read : (word : Keyword) (x : List Token) → StartWord word
    → walk AtFirst (Word XA ∷ Word word ∷ x) ≡ walk (WantsGtrid Verb.Starts) x
unfolding walk after_token
start_read _ x is_start = refl
start_read _ x is_begin = refl

-- JOIN or RESUME behind the identifier of XA START makes a statement that isn't supported
join_next : (word : Keyword) (xid : Xid) → JoinWord word → xid_word Verb.Starts xid word ≡ Some (Whole Unsupported)
join_next _ xid is_join = refl
join_next _ xid is_resume = refl

-- tokens that lead to a whole statement are a row that says it
whole_row : (tokens : List Token) (statement : Statement) → walk AtFirst tokens ≡ Some (Whole statement)
    → RowRead tokens statement
unfolding finish
whole_row tokens statement e = record { state = Whole statement; reached = e; open_end = refl; closed_end = refl }

-- tokens that lead to the word SUSPEND are a row of a statement that isn't supported
suspend_row : (tokens : List Token) → walk AtFirst tokens ≡ Some AfterSuspend → RowRead tokens Unsupported
unfolding finish
suspend_row tokens e = record { state = AfterSuspend; reached = e; open_end = refl; closed_end = refl }

-- a key that isn't empty leads to what its verb wants next
key_next : (items : List ℕ) → 0 < length items → (verb : RowVerb) → key_state verb items ≡ Some (after_key verb items)
key_next [] some verb = absurd (omega arith)
key_next (byte ∷ items) some verb = refl

-- the tokens of each row of the grammar lead to its statement
pub row_read : (tokens : List Token) (statement : Statement) → Row tokens statement → RowRead tokens statement
unfolding walk after_token finish
row_read _ _ (start {word} {parts = x} {xid} is form) = plain_row Verb.Starts _ x xid (start_read word x is) form
row_read _ _ (start_clause {word} {clause} {parts = x} {xid} is form join) =
    whole_row _ Unsupported (start_read word (x ++ Word clause ∷ []) is
    ∙ clause_step Verb.Starts x [] xid clause (Whole Unsupported) form (join_next clause xid join))
row_read _ _ (end {parts = x} {xid} form) = plain_row Verb.Ends _ x xid refl form
row_read _ _ (end_suspend {parts = x} {xid} form) =
    suspend_row _ (clause_step Verb.Ends x [] xid SUSPEND AfterSuspend form refl)
row_read _ _ (end_suspend_for {parts = x} {xid} form) =
    whole_row _ Unsupported (clause_step Verb.Ends x (Word FOR ∷ Word MIGRATE ∷ []) xid SUSPEND AfterSuspend form refl)
row_read _ _ (prepare {parts = x} {xid} form) = plain_row Verb.Prepares _ x xid refl form
row_read _ _ (commit {parts = x} {xid} form) = plain_row Verb.Commits _ x xid refl form
row_read _ _ (commit_one {parts = x} {xid} form) =
    whole_row _ (Commit xid true) (clause_step Verb.Commits x (Word PHASE ∷ []) xid ONE (AfterOne xid) form refl)
row_read _ _ (rollback {parts = x} {xid} form) = plain_row Verb.RollsBack _ x xid refl form
row_read _ _ recover = record { state = AfterRecover; reached = refl; open_end = refl; closed_end = refl }
row_read _ _ recover_convert = whole_row _ (Recover true) refl
row_read _ _ (get key m some) = whole_row _ (Get key.items) (rw (key_next key.items some Gets, walk) refl)
row_read _ _ (put key value m n some) = whole_row _ (Put key.items value) (rw (key_next key.items some Puts, walk) refl)
row_read _ _ (del key m some) = whole_row _ (Del key.items) (rw (key_next key.items some Deletes, walk) refl)
row_read _ _ disconnect = whole_row _ Disconnect refl

-- a semicolon behind a whole statement leads to the end of that statement
semicolon_step : (state : State) (statement : Statement) → unended state ≡ Some statement
    → after_token state Semicolon ≡ Some (Ended statement)
unfolding after_token
semicolon_step state statement e = ap ended e

-- if tokens spell a statement by the grammar, the walk along them answers that statement
pub said_read : (tokens : List Token) (statement : Statement) → Says tokens statement
    → answer (walk AtFirst tokens) ≡ Some statement
unfolding finish
said_read _ statement (bare_row {tokens} row) =
    let read = row_read tokens statement row in ap answer read.reached ∙ read.closed_end
said_read _ statement (ended_row {tokens} row) =
    let read = row_read tokens statement row in
    ap answer (walk_then tokens (Semicolon ∷ []) AtFirst read.state read.reached
    ∙ walk-go read.state (Ended statement) Semicolon [] (semicolon_step read.state statement read.open_end)
    ∙ walk-nil (Ended statement))
