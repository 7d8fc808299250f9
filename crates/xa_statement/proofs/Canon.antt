-- The canonical text of a statement spells that statement.
use Rattle.std.proofs.Common.{◌≡◌, ℕ, ◌^◌, ◌<◌, ◌≤◌, Bool, true, false, ◌||◌, nat_lt, List, [], ◌∷◌, ◌++◌, length}
use Rattle.std.proofs.Common.{codes, decimal, is_none, Option, Some, None, Ok, refl, sym, ◌∙◌, ap, arith}
use Rattle.std.proofs.lemmas.{Bool.{agree_below_at, ne_eqb, le-ltb, true≢false}, List.append-nil}
use Rattle.std.{proofs.lemmas.Fmt.decimal_is_IsNumeral, specs.Str.Parse.IsNumeral}
use Rattle.hex.specs.Hex.{IsBytes, encode_lower}
use Rattle.xa_xid.specs.{Bytes.{belongs, front, behind, run, after_run, unblank, StartsNo}, Literal.literal_ahead}
use Rattle.xa_xid.specs.{Number.number_ahead, Xid.Text, XidText.{IsWritable, part_text, xid_text}}
use Rattle.xa_xid.specs.declared.{byte_class.ByteClass.TheVariants.Word as word_byte, xid.Xid.Xid}
use Rattle.xa_xid.specs.declared.statement.Statement.TheVariants.{Start, End, Prepare, Commit, Rollback, Recover, Get}
use Rattle.xa_xid.{specs.declared.statement.Statement.TheVariants.{Put, Del, Disconnect}, proofs.Written.Passes}
use Rattle.xa_xid.proofs.Written.{front-append, behind-append, part_back, part_word, number_back, decimal_word}
use Rattle.xa_xid.proofs.Written.{part_unblank, number_unblank, xid_text-append, comma_no_word, decimal_byte}
use Rattle.xa_statement.specs.declared.token.Keyword.{Keyword, TheVariants.{Xa as XA, Start as START, End as END}}
use Rattle.xa_statement.specs.declared.token.Keyword.TheVariants.{Prepare as PREPARE, Commit as COMMIT}
use Rattle.xa_statement.specs.declared.token.Keyword.TheVariants.{Rollback as ROLLBACK, Recover as RECOVER, One as ONE}
use Rattle.xa_statement.specs.declared.token.Keyword.TheVariants.{Phase as PHASE, Convert as CONVERT, Xid as XID}
use Rattle.xa_statement.specs.declared.token.Keyword.TheVariants.{Get as GET, Put as PUT, Del as DEL}
use Rattle.xa_statement.specs.declared.token.{Keyword.TheVariants.Disconnect as DISCONNECT, Token.Token}
use Rattle.xa_statement.specs.{declared.token.Token.TheVariants.{Word, Comma, Value}, Canonical.{statement_text, IsKey}}
use Rattle.xa_statement.specs.Grammar.{XidTokens, gtrid_bqual_format, is_start, start, end, prepare, commit, commit_one}
use Rattle.xa_statement.specs.Grammar.{rollback, recover, recover_convert, get, put, del, disconnect, bare_row, Spells}
use Rattle.xa_statement.specs.Token.{is_word, statement_word, clause_word, keyword_of, part_of, run_token, run_at}
use Rattle.xa_statement.specs.Token.{quoted_piece, opens_quoted, token_at, pieces, tokens_of, bare}
use Rattle.xa_statement.proofs.Pieces.{IsUnblank, first_token, tokens-unblank, pieces-nil}

-- the tokens of a text are its first token and those behind it
pub token_next : (text body tail : List ℕ) (byte : ℕ) (token : Token) → unblank text ≡ byte ∷ body
    → token_at (byte ∷ body) ≡ (token, tail)
    → unblank (byte ∷ body) ≡ byte ∷ body → bare (tokens_of text) ≡ token ∷ bare (tokens_of tail)
token_next text body tail byte token e cut again =
    let is : IsUnblank (byte ∷ body) = record { same = again } in
    ap bare (sym (tokens-unblank text)) ∙ ap (λ t. bare (tokens_of t)) e ∙ ap bare (first_token byte body is)
    ∙ ap (λ c. c.0 ∷ bare (tokens_of c.1)) cut

-- a blank (32) between tokens is skipped
space_next : (text : List ℕ) → bare (tokens_of (32 ∷ text)) ≡ bare (tokens_of text)
unfolding behind belongs
space_next text = ap bare (sym (tokens-unblank (32 ∷ text)) ∙ tokens-unblank text)

-- a comma (the byte 44) in front is cut off as that token
comma_next : (text : List ℕ) → bare (tokens_of (44 ∷ text)) ≡ Comma ∷ bare (tokens_of text)
unfolding behind belongs token_at
comma_next text = token_next (44 ∷ text) text text 44 Comma refl refl refl

-- a word with a blank behind it is cut off as that word
word_next : (text body rest : List ℕ) (byte : ℕ) (word : Keyword) → text ≡ byte ∷ body
    → unblank (byte ∷ body) ≡ byte ∷ body
    → token_at (byte ∷ body) ≡ (Word word, 32 ∷ rest) → bare (tokens_of text) ≡ Word word ∷ bare (tokens_of rest)
word_next text body rest byte word e is cut =
    token_next text body (32 ∷ rest) byte (Word word) (ap unblank e ∙ is) cut is
    ∙ ap (λ ts. Word word ∷ ts) (space_next rest)

-- the word XA of a canonical text, with the blank behind it, is cut off as that word
xa_word : (rest : List ℕ) → bare (tokens_of (codes "XA " ++ rest)) ≡ Word XA ∷ bare (tokens_of rest)
unfolding token_at front behind belongs keyword_of statement_word clause_word is_word
xa_word rest = word_next (codes "XA " ++ rest) (codes "A " ++ rest) rest 88 XA refl refl refl

-- the word START of a canonical text, with the blank behind it, is cut off as that word
start_word : (rest : List ℕ) → bare (tokens_of (codes "START " ++ rest)) ≡ Word START ∷ bare (tokens_of rest)
unfolding token_at front behind belongs keyword_of statement_word clause_word is_word
start_word rest = word_next (codes "START " ++ rest) (codes "TART " ++ rest) rest 83 START refl refl refl

-- the word END of a canonical text, with the blank behind it, is cut off as that word
end_word : (rest : List ℕ) → bare (tokens_of (codes "END " ++ rest)) ≡ Word END ∷ bare (tokens_of rest)
unfolding token_at front behind belongs keyword_of statement_word clause_word is_word
end_word rest = word_next (codes "END " ++ rest) (codes "ND " ++ rest) rest 69 END refl refl refl

-- the word PREPARE of a canonical text, with the blank behind it, is cut off as that word
prepare_word : (rest : List ℕ) → bare (tokens_of (codes "PREPARE " ++ rest)) ≡ Word PREPARE ∷ bare (tokens_of rest)
unfolding token_at front behind belongs keyword_of statement_word clause_word is_word
prepare_word rest = word_next (codes "PREPARE " ++ rest) (codes "REPARE " ++ rest) rest 80 PREPARE refl refl refl

-- the word COMMIT of a canonical text, with the blank behind it, is cut off as that word
commit_word : (rest : List ℕ) → bare (tokens_of (codes "COMMIT " ++ rest)) ≡ Word COMMIT ∷ bare (tokens_of rest)
unfolding token_at front behind belongs keyword_of statement_word clause_word is_word
commit_word rest = word_next (codes "COMMIT " ++ rest) (codes "OMMIT " ++ rest) rest 67 COMMIT refl refl refl

-- the word ROLLBACK of a canonical text, with the blank behind it, is cut off as that word
rollback_word : (rest : List ℕ) → bare (tokens_of (codes "ROLLBACK " ++ rest)) ≡ Word ROLLBACK ∷ bare (tokens_of rest)
unfolding token_at front behind belongs keyword_of statement_word clause_word is_word
rollback_word rest = word_next (codes "ROLLBACK " ++ rest) (codes "OLLBACK " ++ rest) rest 82 ROLLBACK refl refl refl

-- the word GET of a canonical text, with the blank behind it, is cut off as that word
get_word : (rest : List ℕ) → bare (tokens_of (codes "GET " ++ rest)) ≡ Word GET ∷ bare (tokens_of rest)
unfolding token_at front behind belongs keyword_of statement_word clause_word is_word
get_word rest = word_next (codes "GET " ++ rest) (codes "ET " ++ rest) rest 71 GET refl refl refl

-- the word PUT of a canonical text, with the blank behind it, is cut off as that word
put_word : (rest : List ℕ) → bare (tokens_of (codes "PUT " ++ rest)) ≡ Word PUT ∷ bare (tokens_of rest)
unfolding token_at front behind belongs keyword_of statement_word clause_word is_word
put_word rest = word_next (codes "PUT " ++ rest) (codes "UT " ++ rest) rest 80 PUT refl refl refl

-- the word DEL of a canonical text, with the blank behind it, is cut off as that word
del_word : (rest : List ℕ) → bare (tokens_of (codes "DEL " ++ rest)) ≡ Word DEL ∷ bare (tokens_of rest)
unfolding token_at front behind belongs keyword_of statement_word clause_word is_word
del_word rest = word_next (codes "DEL " ++ rest) (codes "EL " ++ rest) rest 68 DEL refl refl refl

-- the text ` ONE PHASE`, at the end of XA COMMIT, is the words ONE and PHASE
one_phase_end : bare (tokens_of (codes " ONE PHASE")) ≡ Word ONE ∷ Word PHASE ∷ []
unfolding token_at front behind belongs keyword_of statement_word clause_word is_word pieces
one_phase_end = refl

-- the text XA RECOVER is the words XA and RECOVER
recover_text : bare (tokens_of (codes "XA RECOVER")) ≡ Word XA ∷ Word RECOVER ∷ []
unfolding token_at front behind belongs keyword_of statement_word clause_word is_word pieces
recover_text = refl

-- the text XA RECOVER CONVERT XID is these four words
convert_text : bare (tokens_of (codes "XA RECOVER CONVERT XID")) ≡ Word XA ∷ Word RECOVER ∷ Word CONVERT ∷ Word XID ∷ []
unfolding token_at front behind belongs keyword_of statement_word clause_word is_word pieces
convert_text = refl

-- the text DISCONNECT is that word
disconnect_text : bare (tokens_of (codes "DISCONNECT")) ≡ Word DISCONNECT ∷ []
unfolding token_at front behind belongs keyword_of statement_word clause_word is_word pieces
disconnect_text = refl

-- what tests as None is None
not_some : (found : Option Keyword) → is_none found ≡ true → found ≡ None
not_some None e = refl
not_some (Some word) e = absurd (true≢false (sym e))

-- a text that begins with a digit (48 to 57) is no word of the grammar
digit_no_word : (byte : ℕ) (more : List ℕ) → 48 ≤ byte → byte ≤ 57 → keyword_of (byte ∷ more) ≡ None
unfolding keyword_of statement_word clause_word is_word
digit_no_word byte more low high =
    let known : (nat_lt byte 48 || is_none (keyword_of (byte ∷ more))) ≡ true =
    agree_below_at (λ n. nat_lt n 48 || is_none (keyword_of (n ∷ more))) (λ _. true) 58 byte refl (omega arith) in
    let above : nat_lt byte 48 ≡ false = le-ltb byte 48 low in
    not_some (keyword_of (byte ∷ more)) (ap (λ b. b || is_none (keyword_of (byte ∷ more))) (sym above) ∙ known)

-- a text that begins with a digit (48 to 57) opens no literal in quotes
no_quote : (byte : ℕ) (text : List ℕ) → 48 ≤ byte → byte ≤ 57 → opens_quoted (byte ∷ text) ≡ false
no_quote byte [] low high = rw (ne_eqb byte 39 (λ e. omega arith), ne_eqb byte 34 (λ e. omega arith)) refl
no_quote byte (second ∷ text) low high =
    rw (
      ne_eqb byte 39 (λ e. omega arith),
      ne_eqb byte 34 (λ e. omega arith),
      ne_eqb byte 88
          (λ e. omega arith),
      ne_eqb byte 120 (λ e. omega arith),
    ) refl

-- a run of word bytes that begins with a digit is a value: a literal, a number, or both
pub digit_token : (byte : ℕ) (body rest : List ℕ) → 48 ≤ byte → byte ≤ 57 → Passes (belongs word_byte) (byte ∷ body)
    → StartsNo (belongs word_byte) rest
    → token_at (byte ∷ body ++ rest)
    ≡ (Value (part_of (literal_ahead (byte ∷ body ++ rest))) (part_of (number_ahead (byte ∷ body ++ rest))), rest)
unfolding token_at
digit_token byte body rest low high word s =
    let text = byte ∷ body ++ rest in
    let cut : run text ≡ byte ∷ body = front-append (belongs word_byte) (byte ∷ body) rest word s in
    let left : after_run text ≡ rest = behind-append (belongs word_byte) (byte ∷ body) rest word s in
    let none : keyword_of (run text) ≡ None = ap keyword_of cut ∙ digit_no_word byte body low high in
    let quote : opens_quoted text ≡ false = no_quote byte (body ++ rest) low high in
    let ran : run_at text ≡ (Value (part_of (literal_ahead text)) (part_of (number_ahead text)), rest) =
    ap (λ k. (run_token k text, after_run text)) none ∙ ap (λ r. (run_token None text, r)) left in
    rw (ne_eqb byte 44 (λ e. omega arith), ne_eqb byte 59 (λ e. omega arith), quote, word.0) ran

-- the canonical text of a part is one token, of these bytes, before the tokens of what follows
pub record PartToken (bytes rest : List ℕ) : Type 0 where
  pub number : Option ℕ
  pub tokens : bare (tokens_of (part_text bytes ++ rest))
      ≡ Value (Some (record { items = bytes })) number ∷ bare (tokens_of rest)

-- the canonical text of a gtrid, bqual, key or value is one token, which has these bytes
pub part_token : (bytes rest : List ℕ) → IsBytes bytes → length bytes ≤ 64 → StartsNo (belongs word_byte) rest
    → PartToken bytes rest
unfolding token_at
part_token [] rest all fits s = record {
  number = None;
  tokens = token_next (part_text [] ++ rest) (39 ∷ 39 ∷ rest) rest 88 (Value (Some (record { items = [] })) None)
      (part_unblank [] rest) (ap quoted_piece (part_back [] rest all fits s)) (part_unblank [] rest);
}
part_token (byte ∷ bytes) rest all fits s =
    let text = part_text (byte ∷ bytes) ++ rest in
    let body = 120 ∷ encode_lower (byte ∷ bytes) in
    let number = part_of (number_ahead text) in
    let literal : part_of (literal_ahead text) ≡ Some (record { items = byte ∷ bytes }) =
    ap part_of (part_back (byte ∷ bytes) rest all fits s) in
    let cut : token_at text ≡ (Value (Some (record { items = byte ∷ bytes })) number, rest) =
    digit_token 48 body rest (omega arith) (omega arith) (part_word byte bytes all) s
    ∙ ap (λ l. (Value l number, rest)) literal in
    record {
      number = number;
      tokens = token_next text (body ++ rest) rest 48 (Value (Some (record { items = byte ∷ bytes })) number)
          (part_unblank (byte ∷ bytes) rest) cut (part_unblank (byte ∷ bytes) rest);
    }

-- the digits are one token, of this number, before the tokens of what follows
pub record NumberToken (n : ℕ) (digits rest : List ℕ) : Type 0 where
  pub literal : Option Text
  pub tokens : bare (tokens_of (digits ++ rest)) ≡ Value literal (Some n) ∷ bare (tokens_of rest)

-- digits that are read as a number are one token, which has that number
digits_token : (n : ℕ) (digits rest : List ℕ) → IsNumeral 10 digits → Passes (belongs word_byte) digits
    → StartsNo (belongs word_byte) rest
    → unblank (digits ++ rest) ≡ digits ++ rest → number_ahead (digits ++ rest) ≡ Ok (n, rest)
    → NumberToken n digits rest
digits_token n [] rest is word s blank e = absurd (omega (arith, is.0))
digits_token n (digit ∷ digits) rest is word s blank e =
    let text = digit ∷ digits ++ rest in
    let literal = part_of (literal_ahead text) in
    let range = decimal_byte digit is.1.0 in
    let number : part_of (number_ahead text) ≡ Some n = ap part_of e in
    let cut : token_at text ≡ (Value literal (Some n), rest) =
    digit_token digit digits rest range.0 range.1 word s ∙ ap (λ v. (Value literal v, rest)) number in
    record {
      literal = literal;
      tokens = token_next text (digits ++ rest) rest digit
          (Value literal (Some n)) blank cut blank;
    }

-- each number below 2^64 in decimal digits is one token, which has that number
number_token : (n : ℕ) (rest : List ℕ) → n < 2 ^ 64 → StartsNo (belongs word_byte) rest → NumberToken n (decimal n) rest
number_token n rest small s =
    digits_token n (decimal n) rest (decimal_is_IsNumeral n small).0 (decimal_word n small) s
    (number_unblank n rest small) (number_back n rest small s)

-- the canonical text of an identifier is its tokens, before those of what follows
pub record XidIs (xid : Xid) (rest : List ℕ) : Type 0 where
  pub x : List Token
  pub form : XidTokens x xid
  pub tokens : bare (tokens_of (xid_text xid ++ rest)) ≡ x ++ bare (tokens_of rest)

-- the canonical text of an identifier is the tokens of that identifier
pub xid_tokens : (xid : Xid) (rest : List ℕ) → IsWritable xid → StartsNo (belongs word_byte) rest → XidIs xid rest
xid_tokens xid rest is s =
    let number = decimal xid.format_id ++ rest in
    let third = part_text xid.bqual.items ++ (44 ∷ number) in
    let g = part_token xid.gtrid.items (44 ∷ third) is.gtrid_bytes is.gtrid_fits (comma_no_word third) in
    let b = part_token xid.bqual.items (44 ∷ number) is.bqual_bytes is.bqual_fits (comma_no_word number) in
    let f = number_token xid.format_id rest is.format_fits s in
    let gtrid : Token = Value (Some xid.gtrid) g.number in
    let bqual : Token = Value (Some xid.bqual) b.number in
    record {
      x = gtrid ∷ Comma ∷ bqual ∷ Comma ∷ Value f.literal (Some xid.format_id) ∷ [];
      form = gtrid_bqual_format xid.gtrid xid.bqual g.number b.number f.literal xid.format_id;
      tokens =
          ap (λ t. bare (tokens_of t)) (xid_text-append xid rest)
          ∙ g.tokens
          ∙ ap (λ ts. gtrid ∷ ts) (comma_next third)
          ∙ ap (λ ts. gtrid ∷ Comma ∷ ts) b.tokens
          ∙ ap (λ ts. gtrid ∷ Comma ∷ bqual ∷ ts) (comma_next number)
          ∙ ap (λ ts. gtrid ∷ Comma ∷ bqual ∷ Comma ∷ ts) f.tokens;
    }

-- the canonical text of an identifier with nothing behind it is only the tokens of that identifier
xid_last : (xid : Xid) → (is : IsWritable xid) → bare (tokens_of (xid_text xid)) ≡ (xid_tokens xid [] is tt).x
xid_last xid is =
    let x = xid_tokens xid [] is tt in
    ap (λ t. bare (tokens_of t)) (sym (append-nil (xid_text xid))) ∙ x.tokens ∙ ap (λ ts. x.x ++ bare ts) (pieces-nil 0)
    ∙ append-nil x.x

-- the text ` ONE PHASE` begins with no word byte, so it ends an identifier before it
one_phase_no_word : StartsNo (belongs word_byte) (codes " ONE PHASE")
unfolding belongs
one_phase_no_word = refl

-- the canonical text of a part at the end of a text is one token, which has its bytes
part_last : (bytes : List ℕ) (all : IsBytes bytes) (fits : length bytes ≤ 64)
    → bare (tokens_of (part_text bytes)) ≡ Value (Some (record { items = bytes }))
    (part_token bytes [] all fits tt).number ∷ []
part_last bytes all fits =
    let part = part_token bytes [] all fits tt in
    ap (λ t. bare (tokens_of t)) (sym (append-nil (part_text bytes))) ∙ part.tokens
    ∙ ap (λ ts. Value (Some (record { items = bytes })) part.number ∷ bare ts) (pieces-nil 0)

-- if a text is always cut off as a word, then XA, this text and the canonical text of an identifier at the end are XA,
-- the word and the identifier's tokens
xa_xid : (text : List ℕ) (word : Keyword) (xid : Xid) → (is : IsWritable xid)
    → ((rest : List ℕ) → bare (tokens_of (text ++ rest)) ≡ Word word ∷ bare (tokens_of rest))
    → bare (tokens_of (codes "XA " ++ (text ++ xid_text xid))) ≡ Word XA ∷ Word word ∷ (xid_tokens xid [] is tt).x
xa_xid text word xid is next =
    xa_word (text ++ xid_text xid) ∙ ap (λ ts. Word XA ∷ ts)
    (next (xid_text xid) ∙ ap (λ ts. Word word ∷ ts) (xid_last xid is))

-- the canonical text of XA START spells it
pub start_spelled : (xid : Xid) → IsWritable xid → Spells (statement_text (Start xid)) (Start xid)
unfolding statement_text
start_spelled xid is =
    rw (xa_xid (codes "START ") START xid is start_word) (bare_row (start is_start (xid_tokens xid [] is tt).form))

-- the canonical text of XA END spells it
pub end_spelled : (xid : Xid) → IsWritable xid → Spells (statement_text (End xid)) (End xid)
unfolding statement_text
end_spelled xid is = rw (xa_xid (codes "END ") END xid is end_word) (bare_row (end (xid_tokens xid [] is tt).form))

-- the canonical text of XA PREPARE spells it
pub prepare_spelled : (xid : Xid) → IsWritable xid → Spells (statement_text (Prepare xid)) (Prepare xid)
unfolding statement_text
prepare_spelled xid is =
    rw (xa_xid (codes "PREPARE ") PREPARE xid is prepare_word) (bare_row (prepare (xid_tokens xid [] is tt).form))

-- the canonical text of XA ROLLBACK spells it
pub rollback_spelled : (xid : Xid) → IsWritable xid → Spells (statement_text (Rollback xid)) (Rollback xid)
unfolding statement_text
rollback_spelled xid is =
    rw (xa_xid (codes "ROLLBACK ") ROLLBACK xid is rollback_word) (bare_row (rollback (xid_tokens xid [] is tt).form))

-- the canonical text of XA COMMIT spells it, with ONE PHASE or without
pub commit_spelled : (xid : Xid) (one_phase : Bool) → IsWritable xid
    → Spells (statement_text (Commit xid one_phase)) (Commit xid one_phase)
unfolding statement_text
commit_spelled xid false is =
    rw (xa_xid (codes "COMMIT ") COMMIT xid is commit_word) (bare_row (commit (xid_tokens xid [] is tt).form))
commit_spelled xid true is =
    let words = codes " ONE PHASE" in
    let x = xid_tokens xid words is one_phase_no_word in
    rw (xa_word (codes "COMMIT " ++ (xid_text xid ++ words))
    ∙ ap (λ ts. Word XA ∷ ts) (commit_word (xid_text xid ++ words)
    ∙ ap (λ ts. Word COMMIT ∷ ts) (x.tokens ∙ ap (λ ts. x.x ++ ts) one_phase_end)))
    (bare_row (commit_one x.form))

-- the canonical text of XA RECOVER spells it, with CONVERT XID or without
pub recover_spelled : (convert : Bool) → Spells (statement_text (Recover convert)) (Recover convert)
unfolding statement_text
recover_spelled false = rw recover_text (bare_row recover)
recover_spelled true = rw convert_text (bare_row recover_convert)

-- the canonical text of GET spells it
pub get_spelled : (key : List ℕ) → IsKey key → Spells (statement_text (Get key)) (Get key)
unfolding statement_text
get_spelled key is =
    rw (get_word (part_text key) ∙ ap (λ ts. Word GET ∷ ts) (part_last key is.all is.fits))
    (bare_row (get (record { items = key }) _ is.some))

-- the canonical text of DEL spells it
pub del_spelled : (key : List ℕ) → IsKey key → Spells (statement_text (Del key)) (Del key)
unfolding statement_text
del_spelled key is =
    rw (del_word (part_text key) ∙ ap (λ ts. Word DEL ∷ ts) (part_last key is.all is.fits))
    (bare_row (del (record { items = key }) _ is.some))

-- the canonical text of PUT spells it
pub put_spelled : (key : List ℕ) (value : Text) → IsKey key → IsBytes value.items → length value.items ≤ 64
    → Spells (statement_text (Put key value)) (Put key value)
unfolding statement_text
put_spelled key value is all fits =
    let rest = 44 ∷ part_text value.items in
    let k = part_token key rest is.all is.fits (comma_no_word (part_text value.items)) in
    let token : Token = Value (Some (record { items = key })) k.number in
    rw (put_word (part_text key ++ rest)
    ∙ ap (λ ts. Word PUT ∷ ts)
    (k.tokens ∙ ap (λ ts. token ∷ ts) (comma_next (part_text value.items)
    ∙ ap (λ ts. Comma ∷ ts) (part_last value.items all fits))))
    (bare_row (put (record { items = key }) value _ _ is.some))

-- the canonical text of DISCONNECT spells it
pub disconnect_spelled : Spells (statement_text Disconnect) Disconnect
unfolding statement_text
disconnect_spelled = rw disconnect_text (bare_row disconnect)
