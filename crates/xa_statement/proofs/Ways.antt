-- What stands first in a text, and where reading goes from there.
use Rattle.std.proofs.Common.{◌≡◌, ℕ, ◌+◌, ◌≤◌, ◌<◌, Bool, true, false, ◌==◌, not, if◌then◌else◌, List, [], ◌∷◌, ◌++◌}
use Rattle.std.proofs.Common.{length, Option, Some, None, Ok, refl, sym, ◌∙◌, ap, arith, IsTrue}
use Rattle.std.proofs.lemmas.{Bool.{eq-eqb, eqb-true, eqb-false}, List.append-nil}
use Rattle.xa_xid.specs.{Bytes.{front, behind, unblank}, Literal.{literal_ahead, sized, text_literal_of}}
use Rattle.xa_xid.specs.{Quoted.{read_in_quotes, onto}, Xid.Text, declared.quoted.Mode.TheVariants.{Plain, Quote}}
use Rattle.xa_xid.specs.declared.statement.Statement.{Statement, TheVariants.{Get, Put, Del}}
use Rattle.xa_xid.{specs.XidText.{xid_of, no_text}, proofs.Texts.kept-fits}
use Rattle.xa_xid.proofs.Cuts.{front-passes, front-stops, front-nil, behind-passes, behind-stops, behind-nil}
use Rattle.xa_xid.proofs.Reading.{plain_quote, plain_byte, quote_closes, quoted-nil-plain, quoted-nil-quote}
use Rattle.xa_statement.specs.declared.state.State.{State, TheVariants.{AtFirst, WantsGtrid, AfterGtrid, WantsBqual}}
use Rattle.xa_statement.specs.declared.state.State.TheVariants.{AfterBqual, WantsFormatId, AfterXid, WantsKey, AfterKey}
use Rattle.xa_statement.specs.declared.state.{State.TheVariants.{WantsValue, Whole, Ended}, Verb.Verb, RowVerb.RowVerb}
use Rattle.xa_statement.specs.declared.{state.RowVerb.TheVariants.{Gets, Puts, Deletes}, token.Keyword.Keyword}
use Rattle.xa_statement.specs.declared.token.Token.{Token, TheVariants.{Word, Comma, Semicolon, Value}}
use Rattle.xa_statement.specs.Machine.{after_token, unended, ended, finish, statement_of, after_word, after_key}
use Rattle.xa_statement.specs.{Machine.key_state, Reading.{read_from, read_end, read_of, seen_of}}
use Rattle.xa_statement.specs.Token.{token_at, quoted_piece, tokens_of}
use Rattle.xa_statement.specs.Ways.{Goes, TakesToken, TakesLiteral, TakesNumber, Leads, Ends, plain_in, heads, Closes}
use Rattle.xa_statement.proofs.{Pieces.{unblank-unblank, tokens-unblank}, Run.{from_next, step_of, read_all, seen}}

-- a token that stands at the front of a text, behind blanks, is taken from it
pub takes : (token : Token) (text found rest : List ℕ) → found ≡ unblank text → 0 < length found
    → token_at found ≡ (token, rest) → TakesToken token text rest
takes token text found rest is some first =
    let here : token_at (unblank text) ≡ (token, rest) = ap token_at (sym is) ∙ first in
    let left : 0 < length (unblank text) = rw (sym is) some in
    λ state next steps.
    ap (read_from state) (sym (tokens-unblank text))
    ∙ step_of state (unblank text) left (unblank-unblank text)
    ∙ ap (λ cut. from_next (after_token state cut.0) (length (unblank text)) (tokens_of cut.1)) here
    ∙ ap (λ o. from_next o (length (unblank text)) (tokens_of rest)) steps

-- a text that begins with a comma (44) has the comma as its first token
comma_first : (rest : List ℕ) → token_at (44 ∷ rest) ≡ (Comma, rest)
unfolding token_at
comma_first rest = refl

-- a text that begins with a semicolon (59) has the semicolon as its first token
semicolon_first : (rest : List ℕ) → token_at (59 ∷ rest) ≡ (Semicolon, rest)
unfolding token_at
semicolon_first rest = refl

-- a state in which a statement could end takes a semicolon
takes_semicolon : (state : State) (said : Statement) → unended state ≡ Some said
    → after_token state Semicolon ≡ Some (Ended said)
unfolding after_token
takes_semicolon state said un = ap ended un

-- a statement that a semicolon ended is still said
ended_said : (said : Statement) → finish (Ended said) ≡ Some said
unfolding finish
ended_said said = refl

-- a whole statement with nothing but blanks behind it is read
at_end : (text : List ℕ) (state : State) (said : Statement) → unblank text ≡ [] → finish state ≡ Some said
    → read_from state (tokens_of text) ≡ Ok said
at_end text state said none fin =
    ap (read_from state) (sym (tokens-unblank text)) ∙ read_all state (unblank text) (ap length none) ∙ ap read_end fin

-- blanks and a comma are read as the comma
pub takes_comma : (text found rest : List ℕ) → found ≡ unblank text → found ≡ 44 ∷ rest → TakesToken Comma text rest
takes_comma text found rest is first =
    takes Comma text (44 ∷ rest) rest (sym first ∙ is) (omega arith) (comma_first rest)

-- false isn't true
pub false_is_true : false ≡ true → ⊥
false_is_true e = cc

-- a text that tests as empty is empty
no_bytes : (text : List ℕ) (empty : Bool) → empty ≡ (length text == 0) → IsTrue empty → text ≡ []
no_bytes [] empty is e = refl
no_bytes (byte ∷ text) true is e = let none : length (byte ∷ text) ≡ 0 = eqb-true _ _ (sym is) in
    absurd (omega (arith, none))
no_bytes (byte ∷ text) false is e = absurd (false_is_true e)

-- a statement may end with blanks
pub ends_bare : (text found : List ℕ) (empty : Bool) → found ≡ unblank text → empty ≡ (length found == 0) → IsTrue empty
    → Ends text
ends_bare text found empty is tested e =
    λ state said un fin. at_end text state said (sym is ∙ no_bytes found empty tested e) fin

-- a statement may end with a semicolon and blanks
pub ends_marked : (text found rest last : List ℕ) (empty : Bool) → found ≡ unblank text → found ≡ 59 ∷ rest
    → last ≡ unblank rest
    → empty ≡ (length last == 0) → IsTrue empty → Ends text
ends_marked text found rest last empty is first behind_it tested e = λ state said un fin.
    takes Semicolon text (59 ∷ rest) rest (sym first ∙ is) (omega arith) (semicolon_first rest) state (Ended said)
    (takes_semicolon state said un)
    ∙ at_end rest (Ended said) said (sym behind_it ∙ no_bytes last empty tested e) (ended_said said)

-- if the machine's states lead through a text to a statement and its end, reading gives that statement
pub said_so : (text rest end : List ℕ) (state : State) (said : Statement) → Goes AtFirst text state rest
    → Leads state rest said end → Ends end
    → Ok said ≡ seen_of (read_of text)
said_so text rest end state said goes leads ends =
    sym (seen text (Ok said) (goes ∙ leads.1.0 ∙ ends leads.0 said leads.1.1.0 leads.1.1.1))

-- as `said_so`, for a statement that equals the one that the states lead to
pub told_so : (text rest end : List ℕ) (state : State) (said told : Statement) → told ≡ said
    → Goes AtFirst text state rest → Leads state rest said end
    → Ends end → Ok told ≡ seen_of (read_of text)
told_so text rest end state said told is goes leads ends = rw is (said_so text rest end state said goes leads ends)

-- putting no bytes in front of what was found changes nothing
onto_nil : (found : Option (List ℕ × List ℕ)) → onto [] found ≡ found
onto_nil None = refl
onto_nil (Some (bytes, rest)) = refl

-- putting bytes and then one byte in front of what was read is putting all of them in front at once
onto_onto : (byte : ℕ) (xs : List ℕ) (found : Option (List ℕ × List ℕ))
    → onto (byte ∷ []) (onto xs found) ≡ onto (byte ∷ xs) found
onto_onto byte xs None = refl
onto_onto byte xs (Some (bytes, rest)) = refl

-- a byte that tests as different from a backslash (92) is no backslash
not_92 : (byte : ℕ) → not (byte == 92) ≡ true → byte ≡ 92 → ⊥
not_92 byte e is = false_is_true (rw (eq-eqb byte 92 is) at e)

-- a plain byte within quotes is neither the quote nor a backslash
other : (quote byte : ℕ) → plain_in quote byte ≡ true → (byte ≡ quote → ⊥) × (byte ≡ 92 → ⊥)
other quote byte plain =
    elim (byte == quote) as (λ b. (byte == quote) ≡ b → (if b then false else not (byte == 92)) ≡ true
    → (byte ≡ quote → ⊥) × (byte ≡ 92 → ⊥)) [
      | true ↦ λ same e. absurd (false_is_true e)
      | false ↦ λ same e. (eqb-false byte quote same, not_92 byte e)
    ] refl plain

-- the plain bytes at the front are read as they are
quoted_front : (quote : ℕ) (body : List ℕ)
    → read_in_quotes quote Plain body ≡ onto (front (plain_in quote) body)
    (read_in_quotes quote Plain (behind (plain_in quote) body))
quoted_front quote [] = rw (front-nil (plain_in quote), behind-nil (plain_in quote), quoted-nil-plain quote) refl
quoted_front quote (byte ∷ body) =
    let p = plain_in quote in
    elim (p byte) as (λ b. p byte ≡ b
    → read_in_quotes quote Plain (byte ∷ body) ≡ onto (front p (byte ∷ body))
    (read_in_quotes quote Plain (behind p (byte ∷ body)))) [
      | true ↦ λ e. rw (front-passes p byte body e, behind-passes p byte body e)
          (plain_byte quote byte body (other quote byte e).0 (other quote byte e).1
          ∙ ap (onto (byte ∷ [])) (quoted_front quote body) ∙ onto_onto byte _ _)
      | false ↦ λ e. rw (front-stops p byte body e, behind-stops p byte body e) (sym (onto_nil _))
    ] refl

-- a quote that no other quote follows ends the literal
quote_ends : (quote : ℕ) (rest : List ℕ) → heads quote rest ≡ false → read_in_quotes quote Quote rest ≡ Some ([], rest)
quote_ends quote [] none = quoted-nil-quote quote
quote_ends quote (byte ∷ rest) none = quote_closes quote byte rest (eqb-false byte quote none)

-- a literal in quotes without escapes is the bytes between them
quoted_whole : (quote : ℕ) (body rest : List ℕ) → Closes quote (behind (plain_in quote) body) rest
    → read_in_quotes quote Plain body ≡ Some (front (plain_in quote) body, rest)
quoted_whole quote body rest closes =
    let plain = front (plain_in quote) body in
    quoted_front quote body
    ∙ ap (λ left. onto plain (read_in_quotes quote Plain left)) closes.0
    ∙ ap (onto plain) (plain_quote quote quote rest refl ∙ quote_ends quote rest closes.1)
    ∙ ap (λ bytes. Some (bytes, rest)) (append-nil plain)

-- a literal in quotes without escapes is a text if it has at most 64 bytes
plain_read : (quote : ℕ) (body rest : List ℕ) (text : Text) → Closes quote (behind (plain_in quote) body) rest
    → text.items ≡ front (plain_in quote) body → length text.items ≤ 64
    → text_literal_of (read_in_quotes quote Plain body) ≡ Ok (text, rest)
plain_read quote body rest text closes items fits =
    ap text_literal_of (quoted_whole quote body rest closes ∙ ap (λ bytes. Some (bytes, rest)) (sym items))
    ∙ ap (λ found. sized found rest) (kept-fits text.items fits)

-- a literal in quotes without escapes, of at most 64 bytes, is read as the text that the program makes of it: an
-- empty one into which the bytes up to the closing quote are put
pub plain_taken : (quote : ℕ) (body plain closing rest : List ℕ) (old text : Text) → plain ≡ front (plain_in quote) body
    → closing ≡ behind (plain_in quote) body → Closes quote closing rest → old.items ≡ []
    → text.items ≡ old.items ++ plain
    → length old.items + length plain ≤ 64 → text_literal_of (read_in_quotes quote Plain body) ≡ Ok (text, rest)
plain_taken quote body plain closing rest old text is_front is_behind closes none items fits =
    let held : text.items ≡ plain = items ∙ ap (λ xs. xs ++ plain) none in
    let few : length text.items ≤ 64 = rw held (omega (arith, fits)) in
    plain_read quote body rest text (sym is_behind ∙ closes.0, closes.1) (held ∙ is_front) few

-- a literal in single quotes (39) in front is one token
pub single_first : (body rest : List ℕ) (text : Text) → text_literal_of (read_in_quotes 39 Plain body) ≡ Ok (text, rest)
    → token_at (39 ∷ body) ≡ (Value (Some text) None, rest)
unfolding token_at literal_ahead
single_first body rest text read = ap quoted_piece read

-- a literal in double quotes (34) in front is one token
pub double_first : (body rest : List ℕ) (text : Text) → text_literal_of (read_in_quotes 34 Plain body) ≡ Ok (text, rest)
    → token_at (34 ∷ body) ≡ (Value (Some text) None, rest)
unfolding token_at literal_ahead
double_first body rest text read = ap quoted_piece read

-- a text with a word in front leads on as the grammar's word does
pub goes_word : (text rest : List ℕ) (state next : State) (word : Keyword) → after_word state word ≡ Some next
    → TakesToken (Word word) text rest
    → Goes state text next rest
unfolding after_token
goes_word text rest state next word steps first = first state next steps

-- a word that was found leads on as the grammar's word does
pub goes_known : (text rest : List ℕ) (state next : State) (found word : Keyword) → found ≡ word
    → after_word state word ≡ Some next
    → TakesToken (Word found) text rest → Goes state text next rest
goes_known text rest state next found word is steps first =
    goes_word text rest state next found (ap (after_word state) is ∙ steps) first

-- if reading comes from a state to another, and leads from there to a statement, it leads to it from the first
pub goes_then : (text rest end : List ℕ) (state next : State) (said : Statement) → Goes state text next rest
    → Leads next rest said end
    → Leads state text said end
goes_then text rest end state next said goes leads = (leads.0, (goes ∙ leads.1.0, leads.1.1))

-- a gtrid alone leads to the identifier with an empty bqual and the formatID 1
pub gtrid_leads : (verb : Verb) (text rest : List ℕ) (found : Text) → TakesLiteral text found rest
    → Leads (WantsGtrid verb) text (statement_of verb (xid_of found no_text 1)) rest
unfolding after_token finish
gtrid_leads verb text rest found first =
    (AfterGtrid verb found, (first.1 (WantsGtrid verb) (AfterGtrid verb found) refl, (refl, refl)))

-- a gtrid and the comma behind it lead to where a bqual is wanted
pub gtrid_goes : (verb : Verb) (text middle rest : List ℕ) (found : Text) → TakesLiteral text found middle
    → TakesToken Comma middle rest
    → Goes (WantsGtrid verb) text (WantsBqual verb found) rest
unfolding after_token
gtrid_goes verb text middle rest found first comma =
    first.1 (WantsGtrid verb) (AfterGtrid verb found) refl ∙ comma (AfterGtrid verb found) (WantsBqual verb found) refl

-- a bqual alone leads to the identifier with the formatID 1
pub bqual_leads : (verb : Verb) (gtrid : Text) (text rest : List ℕ) (found : Text) → TakesLiteral text found rest
    → Leads (WantsBqual verb gtrid) text (statement_of verb (xid_of gtrid found 1)) rest
unfolding after_token finish
bqual_leads verb gtrid text rest found first =
    (AfterBqual verb gtrid found, (first.1 (WantsBqual verb gtrid) (AfterBqual verb gtrid found) refl, (refl, refl)))

-- a bqual and the comma behind it lead to where a formatID is wanted
pub bqual_goes : (verb : Verb) (gtrid : Text) (text middle rest : List ℕ) (found : Text)
    → TakesLiteral text found middle → TakesToken Comma middle rest
    → Goes (WantsBqual verb gtrid) text (WantsFormatId verb gtrid found) rest
unfolding after_token
bqual_goes verb gtrid text middle rest found first comma =
    first.1 (WantsBqual verb gtrid) (AfterBqual verb gtrid found) refl
    ∙ comma (AfterBqual verb gtrid found) (WantsFormatId verb gtrid found) refl

-- a gtrid alone leads to the identifier with this bqual and this formatID, if they are the empty text and 1
pub gtrid_said : (verb : Verb) (text rest : List ℕ) (found bqual : Text) (number : ℕ) → bqual ≡ no_text → number ≡ 1
    → TakesLiteral text found rest
    → Leads (WantsGtrid verb) text (statement_of verb (xid_of found bqual number)) rest
gtrid_said verb text rest found bqual number none one first = rw (none, one) (gtrid_leads verb text rest found first)

-- a bqual alone leads to the identifier with this formatID, if it is 1
pub bqual_said : (verb : Verb) (gtrid : Text) (text rest : List ℕ) (found : Text) (number : ℕ) → number ≡ 1
    → TakesLiteral text found rest
    → Leads (WantsBqual verb gtrid) text (statement_of verb (xid_of gtrid found number)) rest
bqual_said verb gtrid text rest found number one first = rw one (bqual_leads verb gtrid text rest found first)

-- where a formatID is wanted, a token that has a number, whatever literal it also has, leads on with that formatID
format_steps : (verb : Verb) (gtrid bqual : Text) (literal : Option Text) (number : ℕ)
    → after_token (WantsFormatId verb gtrid bqual) (Value literal (Some number))
    ≡ Some (AfterXid verb (xid_of gtrid bqual number))
unfolding after_token
format_steps verb gtrid bqual None number = refl
format_steps verb gtrid bqual (Some text) number = refl

-- a formatID ends the identifier
pub format_leads : (verb : Verb) (gtrid bqual : Text) (text rest : List ℕ) (number : ℕ) → TakesNumber text number rest
    → Leads (WantsFormatId verb gtrid bqual) text (statement_of verb (xid_of gtrid bqual number)) rest
unfolding after_token finish
format_leads verb gtrid bqual text rest number first =
    let next : State = AfterXid verb (xid_of gtrid bqual number) in
    (next, (first.1 (WantsFormatId verb gtrid bqual) next (format_steps verb gtrid bqual first.0 number), (refl, refl)))

-- a key that isn't empty leads to what its verb wants next
key_some : (verb : RowVerb) (bytes : List ℕ) → 0 < length bytes → key_state verb bytes ≡ Some (after_key verb bytes)
key_some verb [] some = absurd (omega arith)
key_some verb (byte ∷ bytes) some = refl

-- a key that isn't empty, at the front of a text, leads to what its verb wants next
key_goes : (verb : RowVerb) (text rest : List ℕ) (key : Text) → TakesLiteral text key rest → 0 < length key.items
    → Goes (WantsKey verb) text (after_key verb key.items) rest
unfolding after_token
key_goes verb text rest key first some =
    first.1 (WantsKey verb) (after_key verb key.items) (key_some verb key.items some)

-- GET with a key that isn't empty is a whole statement
pub get_leads : (text rest : List ℕ) (key : Text) → TakesLiteral text key rest → 0 < length key.items
    → Leads (WantsKey Gets) text (Get key.items) rest
unfolding finish
get_leads text rest key first some = (Whole (Get key.items), (key_goes Gets text rest key first some, (refl, refl)))

-- DEL with a key that isn't empty is a whole statement
pub del_leads : (text rest : List ℕ) (key : Text) → TakesLiteral text key rest → 0 < length key.items
    → Leads (WantsKey Deletes) text (Del key.items) rest
unfolding finish
del_leads text rest key first some = (Whole (Del key.items), (key_goes Deletes text rest key first some, (refl, refl)))

-- PUT with a key that isn't empty, a comma and a value is a whole statement
pub row_leads : (text behind_key behind_comma rest : List ℕ) (key value : Text) → TakesLiteral text key behind_key
    → TakesToken Comma behind_key behind_comma
    → TakesLiteral behind_comma value rest → 0 < length key.items
    → Leads (WantsKey Puts) text (Put key.items value) rest
unfolding after_token finish
row_leads text behind_key behind_comma rest key value first comma last some =
    let said : State = Whole (Put key.items value) in
    let at_value = key_goes Puts text behind_key key first some
    ∙ comma (AfterKey key.items) (WantsValue key.items) refl in
    let goes = at_value ∙ last.1 (WantsValue key.items) said refl in
    (said, (goes, (refl, refl)))
