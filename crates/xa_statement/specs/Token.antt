-- Tokens: how a text is cut from the left.
--     is_word word run       the run is the word, without regard to case
--     keyword_of run         the word of the grammar that a run is
--     token_at text          the token that a text begins with, and the text after it
--     tokens_of text         the tokens of a text, each with the number of bytes from it to the end
--     bare tokens            the tokens without these numbers
--     statement_word, clause_word     the words that begin a statement or follow XA;  those of clauses
--     quoted_piece, run_at            the token of a literal in quotes;  of a run of word bytes
--     pieces most text                the first tokens of a text, at most so many
use Rattle.std.specs.Prelude.{ℕ, Bool, ◌==◌, ◌||◌, if◌then◌else◌, List, [], ◌∷◌, length, map, codes, zero, suc, Option}
use Rattle.std.specs.{Prelude.{Some, None, Ok, Err, bytes_eq}, Char.to_ascii_lowercase}
use Rattle.xa_xid.specs.{Bytes.{belongs, run, after_run, unblank}, declared.byte_class.ByteClass.ByteClass}
use Rattle.xa_xid.specs.{Literal.{Reading, literal_ahead, opens_text, opens_hex}, Number.number_ahead, Xid.Text}
use Rattle.xa_statement.specs.declared.token.{Keyword.Keyword, Token.Token}

-- whether the bytes are this word, without regard to case
unfoldable pub is_word : List ℕ → List ℕ → Bool
is_word word run = bytes_eq (map to_ascii_lowercase run) (map to_ascii_lowercase word)

-- the word, of those that begin a statement or come after XA, that a run is; none if it is no such word
unfoldable pub statement_word : List ℕ → Option Keyword
statement_word run =
    if is_word (codes "XA") run then Some Keyword.Xa else
    if is_word (codes "START") run then Some Keyword.Start else
    if is_word (codes "BEGIN") run then Some Keyword.Begin else
    if is_word (codes "END") run then Some Keyword.End else
    if is_word (codes "PREPARE") run then Some Keyword.Prepare else
    if is_word (codes "COMMIT") run then Some Keyword.Commit else
    if is_word (codes "ROLLBACK") run then Some Keyword.Rollback else
    if is_word (codes "RECOVER") run then Some Keyword.Recover else
    if is_word (codes "GET") run then Some Keyword.Get else
    if is_word (codes "PUT") run then Some Keyword.Put else
    if is_word (codes "DEL") run then Some Keyword.Del else
    if is_word (codes "DISCONNECT") run then Some Keyword.Disconnect else None

-- the word, of those in the clauses after an xid or RECOVER, that a run is; none if it is no such word
unfoldable pub clause_word : List ℕ → Option Keyword
clause_word run =
    if is_word (codes "JOIN") run then Some Keyword.Join else
    if is_word (codes "RESUME") run then Some Keyword.Resume else
    if is_word (codes "SUSPEND") run then Some Keyword.Suspend else
    if is_word (codes "FOR") run then Some Keyword.For else
    if is_word (codes "MIGRATE") run then Some Keyword.Migrate else
    if is_word (codes "ONE") run then Some Keyword.One else
    if is_word (codes "PHASE") run then Some Keyword.Phase else
    if is_word (codes "CONVERT") run then Some Keyword.Convert else
    if is_word (codes "XID") run then Some Keyword.Xid else None

-- the first of two answers, or the second if there is no first
abbrev pub or_else : {Answer : Type 0} → Option Answer → Option Answer → Option Answer
or_else (Some answer) other = Some answer
or_else None other = other

-- the word of the grammar that a run is, if it is one
unfoldable pub keyword_of : List ℕ → Option Keyword
keyword_of run = or_else (statement_word run) (clause_word run)

-- what was read, without the rest of the text; none if it was faulty
abbrev pub part_of : {Answer : Type 0} → Reading Answer → Option Answer
part_of (Ok (answer, rest)) = Some answer
part_of (Err fault) = None

-- the token of a literal in quotes, and the rest; where a faulty one ends can't be observed: no statement has one
abbrev pub quoted_piece : Reading Text → Token × List ℕ
quoted_piece (Ok (text, rest)) = (Token.Value (Some text) None, rest)
quoted_piece (Err fault) = (Token.Value None None, [])

-- the token of a run in front of a text: the word that the run is, or else its values as a literal and as a number
abbrev pub run_token : Option Keyword → List ℕ → Token
run_token (Some word) text = Token.Word word
run_token None text = Token.Value (part_of (literal_ahead text)) (part_of (number_ahead text))

-- the run of word bytes that a text begins with, as a token, and the text after it
abbrev pub run_at : List ℕ → Token × List ℕ
run_at text = (run_token (keyword_of (run text)) text, after_run text)

-- the text begins as a literal in quotes does: with a quote, or with X or x and a '
abbrev pub opens_quoted : List ℕ → Bool
opens_quoted text = opens_text text || opens_hex text

-- the token that a text begins with, if it doesn't begin with a blank; a byte that begins no token takes the rest
unfoldable pub token_at : List ℕ → Token × List ℕ
token_at [] = (Token.Value None None, [])
token_at (byte ∷ text) =
    if byte == 44 then (Token.Comma, text) else
    if byte == 59 then (Token.Semicolon, text) else
    if opens_quoted (byte ∷ text) then quoted_piece (literal_ahead (byte ∷ text)) else
    if belongs ByteClass.Word byte then run_at (byte ∷ text) else
    (Token.Value None None, [])

-- a token with the number of bytes from it to the end
abbrev pub Piece : Type 0
Piece = Token × ℕ

-- the token that a text begins with, if it doesn't begin with a blank, and the text after it; none if it is empty
abbrev pub first_piece : List ℕ → Option (Piece × List ℕ)
first_piece [] = None
first_piece (byte ∷ text) = let cut = token_at (byte ∷ text) in Some ((cut.0, length (byte ∷ text)), cut.1)

-- the tokens at the beginning of a text, at most the given number of them; blanks before each are skipped
unfoldable pub pieces : ℕ → List ℕ → List Piece
pieces zero text = []
pieces (suc most) text = elim (first_piece (unblank text)) [ None ↦ [] | Some cut ↦ cut.0 ∷ pieces most cut.1 ]

-- the tokens of a text, which are no more than its bytes
abbrev pub tokens_of : List ℕ → List Piece
tokens_of text = pieces (length text) text

-- the tokens of pieces, without the numbers of bytes that are left
abbrev pub bare : List Piece → List Token
bare [] = []
bare (piece ∷ more) = piece.0 ∷ bare more
